-- What typed records are to one who reads their bytes under a sheet: the one that they were written under, or another.
--
--   entry_by o n w at bs ==  the entry of a record of the number n and the wire type w, which o declares, if anything; its payload, the
--                           bytes bs, stands at the place `at`
--            path_of s d ==  the type path of the declaration d
--       reached_by s d p ==  the message at the place p of the sheet, as the type path of d leads there
--      on_path s d u f t ==  what f makes of the message that the type path of d comes to by a look-up u, t where that is none
--     holds L s o e f t ==  the message record e, which o declares, if anything, with f of the message that it is inside it; and then t
--      seen L s m rs at ==  the records rs inside the message m, their bytes standing at the place `at`
--             nested rs ==  how deep messages lie in each other: 0 where there is none
--        OnWire s m n t <-> what declares the number n at m, if anything, has the wire type of t
--           Plain s m n <-> what declares the number n at m, if anything, is no message
--         Names L s d P <-> the type path of d names a message, of which P holds
--     Readable L s m rs <-> a number that is declared at m is declared by a type of its record's wire type; a message by a type path that
--                           names one, inside which it is so again. Of a number that is not declared nothing is asked
--
-- Assumes nothing.
use Rattle.std.specs.Prelude.{◌≡◌, List, ◌++◌, ℕ, suc, ◌+◌, length, max, Option, None, Some, Err, Ok, Result}
use Rattle.field.specs.Leaf.{text}
use Rattle.types.specs.Types.{wire_of, LEN, TYPE_MESSAGE}
use Rattle.payloads.specs.Value.{said, value_of}
use Rattle.sheet.specs.declared.declaration.Declaration.{Declaration}
use Rattle.scope.specs.declared.lookup.LookupScope.{LookupScope}
use Rattle.lookups.specs.Lookups.{Lookups, Message}
use Rattle.records.specs.Records.{Recs, nil, number, bytes, message, payload, headed, head_of, sized, encode}
use Rattle.entries.specs.declared.Entry.{Entry}
use Rattle.entries.specs.Tree.{Tree, end, one, held}
use Rattle.entries.specs.Item.{declared}
use Rattle.reply.specs.declared.Refusal.{Refusal}

-- 01, Listing: "type (0 unknown)"; "Length-delimited and unknown records have value 0" [LIST-1, LIST-7]
abbrev pub entry_by : Option Declaration → (number wire place : ℕ) (payload : List ℕ) → Entry
entry_by None n w at bs = record { number = n; typ = 0; wire = w; place = at; size = length bs; value = 0; by = None }
entry_by (Some d) n w at bs = record {
  number = n;
  typ = d.shape.typ;
  wire = w;
  place = at;
  size = length bs;
  value = value_of d.shape.typ (said w bs);
  by = Some d;
}

abbrev pub path_of : (s : List ℕ) → Declaration → List ℕ
path_of s d = text s d.shape.path

abbrev pub reached_by : (s : List ℕ) → Declaration → LookupScope → Message
reached_by s d p = record { name = path_of s d; place = p }

abbrev pub on_path : (s : List ℕ) → Declaration → Result LookupScope Refusal → (Message → Tree) → Tree → Tree
on_path s d (Ok p) f t = f (reached_by s d p)
on_path s d (Err w) f t = t

module _ (L : Lookups) (s : List ℕ) where
  -- 01, Listing: "a known message's inside directly after it; unknown ones are not entered" [LIST-2]
  abbrev pub holds : Option Declaration → Entry → (inside : Message → Tree) → (rest : Tree) → Tree
  holds None e f t = one e t
  holds (Some d) e f t = on_path s d (L.message (path_of s d)) (λ n. held e (f n) t) (one e t)

  abbrev pub seen : Message → Recs → (place : ℕ) → Tree
  seen m nil at = end
  seen m (number n t v r) at =
      one (entry_by (declared s m n) n (wire_of t) (at + length (headed n t)) (payload t v))
      (seen m r (at + length (headed n t ++ payload t v)))
  seen m (bytes n t bs r) at =
      one (entry_by (declared s m n) n LEN (at + length (head_of n (length bs))) bs) (seen m r (at + length (sized n bs)))
  seen m (message n i r) at =
      holds (declared s m n) (entry_by (declared s m n) n LEN (at + length (head_of n (length (encode i)))) (encode i))
      (λ p. seen p i (at + length (head_of n (length (encode i))))) (seen m r (at + length (sized n (encode i))))

abbrev pub nested : Recs → ℕ
nested nil = 0
nested (number n t v r) = nested r
nested (bytes n t bs r) = nested r
nested (message n i r) = max (suc (nested i)) (nested r)

-- ---- what is asked of records
abbrev pub OnWire : (s : List ℕ) → Message → (number typ : ℕ) → Type 0
OnWire s m n t = (d : Declaration) → declared s m n ≡ Some d → wire_of d.shape.typ ≡ wire_of t

abbrev pub Plain : (s : List ℕ) → Message → (number : ℕ) → Type 0
Plain s m n = (d : Declaration) → declared s m n ≡ Some d → d.shape.typ ≡ TYPE_MESSAGE → ⊥

pub record Names (L : Lookups) (s : List ℕ) (d : Declaration) (P : Message → Type 0) : Type 0 where
  pub place : LookupScope
  pub found : L.message (path_of s d) ≡ Ok place
  pub inside : P (reached_by s d place)

module _ (L : Lookups) (s : List ℕ) where
  abbrev pub Readable : Message → Recs → Type 0
  Readable m nil = Unit {0}
  Readable m (number n t v r) = OnWire s m n t × Readable m r
  Readable m (bytes n t bs r) = OnWire s m n t × Plain s m n × Readable m r
  Readable m (message n i r) =
      ((d : Declaration) → declared s m n ≡ Some d → (d.shape.typ ≡ TYPE_MESSAGE) × Names L s d (λ p. Readable p i)) × Readable m r
