-- Which records of every listed reading are known, by what, and which are entered. The statement stands at the end.
-- Assumes nothing.
use Rattle.std.specs.Prelude.{◌≡◌, refl, List, [], ◌∷◌, ℕ, None, Some, Ok}
use Rattle.basis.proofs.Kit.{arith}
use Rattle.basis.proofs.Never.{never}
use mathlib.Core.Path.{subst}
use Rattle.types.specs.Types.{wire_of, TYPE_MESSAGE}
use Rattle.sheet.specs.declared.declaration.Declaration.{Declaration}
use Rattle.scope.specs.declared.lookup.LookupScope.{LookupScope}
use Rattle.lookups.specs.Lookups.{Lookups, Message}
use Rattle.entries.specs.declared.Entry.{Entry}
use Rattle.entries.specs.Tree.{Tree, end, leaves}
use Rattle.entries.specs.Item.{Item, some, into, wrong, declared}
use Rattle.entries.specs.Reading.{listed, reading}
use Rattle.readback.specs.Seen.{path_of, reached_by}
use Rattle.readback.specs.Typed.{DeclaredAs}
use Rattle.readback.specs.Knows.{KnownBy, Knows}
use Rattle.readback.proofs.ReadingSteps.{Reads, reads_end, reads-leaves, reads_held, reading-reads}
use Rattle.readback.proofs.ItemLaws.{Made, made-wrong, made-unknown, made_plain, made_held, item-made}

-- ---- one record
module _ (s : List ℕ) (m : Message) (e : Entry) where
  known-none : declared s m e.number ≡ None → e.by ≡ None → e.typ ≡ 0 → KnownBy s m e
  known-none q b t = record { by = rw q b; typ = rw q t; wire = λ d g. never cc }

  known_some : (d : Declaration) → declared s m e.number ≡ Some d → e.by ≡ Some d → e.typ ≡ d.shape.typ
      → wire_of d.shape.typ ≡ e.wire → KnownBy s m e
  known_some d q b t w = record {
    by = rw q b;
    typ = rw q t;
    wire = λ x g. let same : x ≡ d = cc in rw same w;
  }

module _ (L : Lookups) (s : List ℕ) where
  record Entered (m : Message) (e : Entry) (n : Message) : Type 0 where
    pub known : KnownBy s m e
    pub declares : DeclaredAs s m e.number TYPE_MESSAGE
    pub place : LookupScope
    pub found : L.message (path_of s declares.by) ≡ Ok place
    pub is : n ≡ reached_by s declares.by place

  abbrev ItemKnown : Message → Item → Type 0
  ItemKnown m (wrong w) = Unit {0}
  ItemKnown m (some es k) = Knows L s m (leaves es end)
  ItemKnown m (into e n k size) = Entered m e n

  made-known : {m : Message} {place : ℕ} {xs : List ℕ} {i : Item} → Made L s m place xs i → ItemKnown m i
  made-known made-wrong = tt
  made-known {m} (made-unknown f q) = (known-none s m _ q refl refl, λ g. omega arith, tt)
  made-known {m} (made_plain {d = d} f q w g) = (known_some s m _ d q refl refl w, g, tt)
  made-known {m} (made_held {d = d} {p} f q w g u) = record {
    known = known_some s m _ d q refl refl w;
    declares = record { by = d; declares = q; typ = g };
    place = p;
    found = u;
    is = refl;
  }

  knows-leaves : (m : Message) (es : List Entry) (t : Tree) → Knows L s m (leaves es end) → Knows L s m t → Knows L s m (leaves es t)
  knows-leaves m [] t y k = k
  knows-leaves m (e ∷ es) t y k = (y.0, y.1, knows-leaves m es t y.2 k)

  reads-know : {m : Message} {place : ℕ} {xs : List ℕ} {t : Tree} → Reads L s m place xs t → Knows L s m t
  reads-know reads_end = tt
  reads-know (reads-leaves {m} {place} {xs} {es} {k} {t} g r) =
      knows-leaves m es t (subst (ItemKnown m) g (made-known (item-made L s m place xs))) (reads-know r)
  reads-know (reads_held {m} {place} {xs} {e} {n} {k} {size} {i} {t} g j r) =
      let here : Entered m e n = subst (ItemKnown m) g (made-known (item-made L s m place xs)) in (
        here.known,
        here.declares,
        record { place = here.place; found = here.found; inside = rw here.is at (reads-know j) },
        reads-know r,
      )

  -- ==== the statement
  -- In every reading that is listed a record is known exactly if its number is declared at its message, by that declaration and its type;
  -- known messages, and they alone, are entered, each at the message that its type path names.
  pub reading-knows : (d : ℕ) (m : Message) (place : ℕ) (bs : List ℕ) (t : Tree) → reading L s d m place bs ≡ listed t → Knows L s m t
  reading-knows d m place bs t e = reads-know (reading-reads L s d m place bs t e)
