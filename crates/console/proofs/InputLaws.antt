-- What a program knows of its input: where a field's payload lies, how long it is, and the bytes that were read.
-- Assumes nothing.
use Rattle.std.specs.Prelude.{◌≡◌, Bool, true, false, List, ℕ, ◌+◌, ◌-◌, ◌≤◌, eqb, length, Some, Option}
use Rattle.basis.specs.Kit.{sym, ap, ◌∙◌}
use Rattle.basis.proofs.Kit.{arith, eq-eqb, ne_eqb, not-true, not-false}
use borrow.Author.Tests.{eqb-true}
use Rattle.field.specs.Leaf.{any_bytes, leaf_at}
use Rattle.field.proofs.LeafLaws.{leaf-ordered, leaf_inside}
use Rattle.inputs.specs.declared.due.Due.{Due}
use Rattle.inputs.specs.inner.Due.{due_at, due_leaf}
use Rattle.inputs.proofs.DueLaws.{due-leaf}
use Rattle.inputs.proofs.WordLaws.{words_count}
use Rattle.console.specs.Input.{Fills}
use Rattle.console.proofs.OutputLaws.{front_laws}
use Rattle.console.proofs.CaseLaws.{answers_same}
use Rattle.field.specs.declared.Span.{Span}

-- ---- the ways through `has_size` and `has_words`
pub size-yes : (n size : ℕ) → n ≡ size → true ≡ eqb n size
size-yes n size e = sym (eq-eqb n size e)

pub size-no : (n size : ℕ) → (n ≡ size → ⊥) → false ≡ eqb n size
size-no n size e = sym (ne_eqb n size e)

pub ruleset size_told_laws = (size-yes, size-no)

-- ---- `field_of`
pub leaf_due : (k : ℕ) (s : List ℕ) (at : ℕ) (d : Due) → d ≡ due_at k s at → (r : Option Span) → r ≡ due_leaf d
    → r ≡ leaf_at k any_bytes s at (length s)
leaf_due k s at d q r p = p ∙ ap due_leaf q ∙ due-leaf k s at

-- ---- for the programs: a payload of so many bytes
pub payload-holds : (k : ℕ) (s : List ℕ) (at end : ℕ) (r : Option Span) → r ≡ leaf_at k any_bytes s at end → (u : Span) → r ≡ Some u
    → (size : ℕ) (b : Bool) → b ≡ eqb (u.to - u.from) size → b ≡ true → u.from + size ≤ end
payload-holds k s at end r q u g size b p t =
    let ordered = leaf-ordered k any_bytes s at end r q u g in
    let inside = leaf_inside k any_bytes s at end r q u g in
    omega (arith, eqb-true (u.to - u.from) size (sym p ∙ t))

pub input-within : (r : Option ℕ) (room : ℕ) → Fills r room → (n : ℕ) → r ≡ Some n → n ≤ room
input-within r room f n e = rw e at f

pub ruleset input_laws = (leaf-ordered, leaf_inside, payload-holds, input-within, words_count, not-true, not-false, front_laws, answers_same)
