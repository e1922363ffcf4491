-- The laws of the record behind a tag, one for each way through the code: of a number that nothing declares, and of a known one.
-- Assumes nothing.
use Rattle.std.specs.Prelude.{◌≡◌, refl, true, List, ℕ, Option, None, Err, Some, Ok, Result}
use Rattle.basis.specs.Kit.{sym, ◌∙◌}
use Rattle.basis.proofs.Kit.{arith, eq-eqb, ne_eqb, Fits}
use Rattle.basis.proofs.Never.{never}
use mir.Syntax.{w32}
use Rattle.reply.specs.declared.Refusal.{Refusal}
use Rattle.field.specs.declared.Span.{Span}
use Rattle.field.specs.Leaf.{text}
use Rattle.types.specs.Types.{TYPE_MESSAGE}
use Rattle.wire.specs.Tag.{number_of, wire_type_of, wire_read, tag_good}
use Rattle.wire.proofs.TagLaws.{tag-good-le, tag-good-wire}
use Rattle.payloads.specs.inner.Placed.{payload_in}
use Rattle.taken.specs.declared.Taken.{Taken}
use Rattle.taken.specs.inner.Taking.{unknown_taken, known_taken}
use Rattle.sheet.specs.declared.declaration.Declaration.{Declaration}
use Rattle.scope.specs.declared.lookup.LookupScope.{LookupScope}
use Rattle.scope.specs.Scope.{holding}
use Rattle.scope.specs.inner.Answers.{declared}
use Rattle.scope.proofs.Answers.{declared-some}
use Rattle.numbers.specs.Number.{declaration_of}
use Rattle.lookups.specs.Lookups.{walking}
use Rattle.entries.specs.declared.Entry.{Entry}
use Rattle.entries.specs.declared.Front.{Front}
use Rattle.entries.specs.declared.Front.TheVariants.{Leaf, Inside}
use Rattle.entries.specs.inner.Fronts.{message, unknown_of, entered_of, known_front, known_of, by_declared, behind_tag}
use Rattle.entries.proofs.LiesLaws.{payload_in_laws}
use Rattle.payloads.specs.declared.Payload.{Payload}

-- ---- unknown
module _ (k w : ℕ) (p : Option Payload) (x : Result Taken Refusal) (q : x ≡ unknown_taken p) where
  pub unknown-wrong : (r : Refusal) → x ≡ Err r → Err r ≡ unknown_of k w p
  unfolding unknown_of
  unknown-wrong r e = rw (← q, e)

  pub unknown-record : (y : Taken) → x ≡ Ok y
      → Ok (Leaf (record { number = k; typ = 0; wire = w; place = y.place; size = y.size; value = y.value; by = None }) y.next) ≡ unknown_of k w p
  unfolding unknown_of
  unknown-record y e = rw (← q, e)

pub ruleset unknown_laws = (unknown-wrong, unknown-record)

-- ---- entered
module _ (s : List ℕ) (e : Entry) (p : Span) (u : Result LookupScope Refusal) (q : u ≡ (walking s).message (text s p)) where
  pub entered-none : (w : Refusal) → u ≡ Err w → Err w ≡ entered_of (walking s) s e p
  unfolding entered_of
  entered-none w g = rw (← q, g)

  pub entered-found : (c : LookupScope) → u ≡ Ok c → Ok (Inside e p c) ≡ entered_of (walking s) s e p
  unfolding entered_of
  entered-found c g = rw (← q, g)

pub ruleset entered_laws = (entered-none, entered-found)

-- ---- known
module _ (s : List ℕ) (d : Declaration) (k w : ℕ) (p : Option Payload) (t : ℕ) (i : t ≡ d.shape.typ) (x : Result Taken Refusal) (q : x ≡ known_taken t w p) where
  taken-by : (y : Result Taken Refusal) → x ≡ y → known_of (walking s) s d k w p ≡ known_front (walking s) s d k w y
  unfolding known_of
  taken-by y e = rw (← e, q, i)

  pub known-wrong : (r : Refusal) → x ≡ Err r → Err r ≡ known_of (walking s) s d k w p
  known-wrong r e = sym (taken-by (Err r) e)

  module _ (y : Taken) (e : x ≡ Ok y) where
    abbrev here : Entry
    here = record { number = k; typ = d.shape.typ; wire = w; place = y.place; size = y.size; value = y.value; by = Some d }

    pub known-message : t ≡ TYPE_MESSAGE → (r : Result Front Refusal) → r ≡ entered_of (walking s) s here d.shape.path
        → r ≡ known_of (walking s) s d k w p
    known-message m r z =
        z ∙ rw (taken-by (Ok y) e) (rw (eq-eqb d.shape.typ TYPE_MESSAGE (sym i ∙ m), known_front))

    pub known-leaf : (t ≡ TYPE_MESSAGE → ⊥) → Ok (Leaf here y.next) ≡ known_of (walking s) s d k w p
    known-leaf m =
        rw (taken-by (Ok y) e) (rw (ne_eqb d.shape.typ TYPE_MESSAGE (λ z. m (i ∙ z)), known_front))

pub ruleset known_laws = (known-wrong, known-message, known-leaf)

-- ---- behind_tag
module _ (t : ℕ) (g : tag_good t ≡ true) where
  pub number_fits : (k : ℕ) → k ≡ number_of t → Fits w32 k
  number_fits k e = record { fits = omega (arith, tag-good-le t g) }

  pub wire-read : (w : ℕ) → w ≡ wire_type_of t → wire_read w ≡ true
  wire-read w e = rw e (tag-good-wire t g)

none-declared : (o : Option Declaration) → declared o ≡ None → o ≡ None
none-declared None e = refl
none-declared (Some d) e = never cc

module _ (s name : List ℕ) (place : LookupScope) (bs : List ℕ) (t at end k : ℕ) (i : k ≡ number_of t) (w : ℕ) (j : w ≡ wire_type_of t)
    (p : Option Payload) (q : p ≡ payload_in w bs at end) (a : Option Declaration) (c : a ≡ declared (declaration_of s (holding s place) name k)) where
  by-declared : (o : Option Declaration) → declaration_of s (holding s place) name k ≡ o
      → behind_tag (walking s) s (message name place) bs t at end ≡ by_declared (walking s) s o k w p
  unfolding behind_tag
  by-declared o e = rw (← e, q, i, j)

  pub behind-unknown : a ≡ None → (r : Result Front Refusal) → r ≡ unknown_of k w p
      → r ≡ behind_tag (walking s) s (message name place) bs t at end
  behind-unknown g r e = e ∙ sym (by-declared None (none-declared (declaration_of s (holding s place) name k) (sym c ∙ g)))

  pub behind-known : (d : Declaration) → a ≡ Some d → (r : Result Front Refusal) → r ≡ known_of (walking s) s d k w p
      → r ≡ behind_tag (walking s) s (message name place) bs t at end
  behind-known d g r e = e ∙ sym (by-declared (Some d) (declared-some a (declaration_of s (holding s place) name k) c d g))

pub ruleset behind_tag_laws = (number_fits, wire-read, behind-unknown, behind-known, payload_in_laws)
