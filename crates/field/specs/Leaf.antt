-- A field that is wanted at a place: of one tag, and with a payload that passes a test.
--
--                 span a e ==  the span from the place a up to the place e
--                 text s p ==  the bytes of a span
--             is_text s t p <=> the bytes of the span p of s are the text t
--                 Lies p s <-> the span is one of s: it ends no earlier than it starts, and no later than s does
--              any_bytes bs <=> nothing is asked of the bytes
--              of_size n bs <=> there are n bytes
--        leaf_of k good s f ==  the payload of the field f, where that is whole, has the tag k and passes the test
--   leaf_at k good s at end ==  the payload of the field at a place, where that is whole, has the tag k and passes the test
--       on_leaf none l some ==  `some` of the leaf, `none` where there is none
--
-- Assumes nothing.
use Rattle.std.specs.Prelude.{Bool, true, ◌&&◌, List, ℕ, ◌≤◌, eqb, length, None, Some, Option}
use Rattle.basis.specs.First.{only_if}
use Rattle.octets.specs.Octets.{part, same_bytes}
use Rattle.field.specs.declared.Span.{Span}
use Rattle.field.specs.Field.{field_at}
use Rattle.field.specs.declared.Field.{Field}

abbrev pub span : (a e : ℕ) → Span
span a e = record { from = a; to = e }

abbrev pub text : List ℕ → Span → List ℕ
text s p = part s p.from p.to

abbrev pub is_text : (s t : List ℕ) (p : Span) → Bool
is_text s t p = same_bytes t (text s p)

abbrev pub Lies : Span → List ℕ → Type 0
Lies p s = (p.from ≤ p.to) × (p.to ≤ length s)

abbrev pub any_bytes : List ℕ → Bool
any_bytes bs = true

abbrev pub of_size : ℕ → List ℕ → Bool
of_size n bs = eqb (length bs) n

abbrev pub leaf_of : (tag : ℕ) (good : List ℕ → Bool) (s : List ℕ) (f : Option Field) → Option Span
leaf_of k good s None = None
leaf_of k good s (Some found) = only_if (eqb found.tag k && good (part s found.from found.to)) (Some (span found.from found.to)) None

unfoldable pub leaf_at : (tag : ℕ) (good : List ℕ → Bool) (s : List ℕ) (at end : ℕ) → Option Span
leaf_at k good s at end = leaf_of k good s (field_at s at end)

abbrev pub on_leaf : {A : Type 0} (none : A) (l : Option Span) (some : Span → A) → A
on_leaf none None some = none
on_leaf none (Some p) some = some p
