-- A message constant on a field: the ways through `put_message` and `put_inside`.
-- Assumes nothing.
use Rattle.std.specs.Prelude.{◌≡◌, refl, List, ℕ, Err, Ok, Result}
use Rattle.basis.proofs.Kit.{eq-eqb, ne_eqb}
use mathlib.Core.Path.{subst}
use Rattle.reply.specs.declared.Refusal.{Refusal}
use Rattle.reply.specs.declared.Refusal.TheVariants.{MessageFieldRequiresMessageConstant}
use Rattle.field.specs.Leaf.{text}
use Rattle.types.specs.Types.{TYPE_MESSAGE}
use Rattle.sheet.specs.declared.declaration.Shape.{Shape}
use Rattle.scope.specs.declared.lookup.LookupScope.{LookupScope}
use Rattle.records.specs.Made.{Made, holding}
use Rattle.records.specs.inner.Emits.{wrote_of, Emits}
use Rattle.records.proofs.EmitsLaws.{wrote-tells, refuses}
use Rattle.records.proofs.InsideLaws.{inside_laws}
use Rattle.lookups.specs.Lookups.{Lookups}
use Rattle.lookups.proofs.LookupLaws.{message-lies}
use Rattle.values.specs.Values.{in_message}
use Rattle.values.specs.inner.Writers.{pairs_made, message_made}

module _ (L : Lookups) (s r : List ℕ) (h : Shape) (d a e : ℕ) (t : ℕ) (k : t ≡ h.typ) where
  pub message-other : (t ≡ TYPE_MESSAGE → ⊥) → (n : ℕ) (l : List ℕ) (at : ℕ)
      → Emits wrote_of (message_made L s r h d a e) n l at l (Err MessageFieldRequiresMessageConstant)
  unfolding message_made
  message-other x n l at =
      refuses wrote-tells MessageFieldRequiresMessageConstant (simp (in_message, ← k, ne_eqb t TYPE_MESSAGE x)) refl

  module _ (x : t ≡ TYPE_MESSAGE) (v : Result LookupScope Refusal) (q : v ≡ L.message (text s h.path)) where
    pub message-none : (w : Refusal) → v ≡ Err w → (n : ℕ) (l : List ℕ) (at : ℕ)
        → Emits wrote_of (message_made L s r h d a e) n l at l (Err w)
    unfolding message_made
    message-none w g n l at = refuses wrote-tells w (simp (in_message, ← k, eq-eqb t TYPE_MESSAGE x, ← q, g)) refl

    pub message-is : (p : LookupScope) → v ≡ Ok p → (n : ℕ) (l : List ℕ) (at : ℕ) (l' : List ℕ) (y : Result ℕ Refusal)
        → Emits wrote_of (holding h.number (pairs_made L s r p d a e)) n l at l' y → Emits wrote_of (message_made L s r h d a e) n l at l' y
    unfolding message_made
    message-is p g n l at l' y u =
        let o : holding h.number (pairs_made L s r p d a e) ≡ message_made L s r h d a e =
        simp (in_message, ← k, eq-eqb t TYPE_MESSAGE x, ← q, g) in
        subst (λ (m : Made Refusal). Emits wrote_of m n l at l' y) o u

pub ruleset message_laws = (message-other, message-none, message-is, message-lies)

pub ruleset put_inside_laws = (inside_laws, wrote-tells)
