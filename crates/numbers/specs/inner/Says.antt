-- The number of a declaration, read before the rest of it: whoever looks for a number reads on only where that is the one.
--
--    says_number k s at e <=> the leaf at that place is a number, and is k
--   extension_says k s a e <=> so it is behind the name and the extendee of the extension whose payload is from a to e
--       field_says k s a e <=> so it is behind the name of the field
--       may_hold k s t a e <=> the field of the tag t is an extension that says k, or a message
--
-- Assumes nothing.
use Rattle.std.specs.Prelude.{Bool, true, false, List, ℕ, eqb}
use Rattle.octets.specs.Octets.{big_at}
use Rattle.field.specs.Leaf.{any_bytes, of_size, on_leaf, leaf_at}
use Rattle.sheet.specs.Table.{message_tag, extension_tag, name_tag, extendee_tag, number_tag}

abbrev pub says_number : (number : ℕ) (s : List ℕ) (at end : ℕ) → Bool
says_number k s at end = on_leaf false (leaf_at number_tag (of_size 4) s at end) λ p. eqb (big_at 4 s p.from) k

abbrev pub extension_says : (number : ℕ) (s : List ℕ) (from to : ℕ) → Bool
extension_says k s a e =
    on_leaf false (leaf_at name_tag any_bytes s a e) λ name.
    on_leaf false (leaf_at extendee_tag any_bytes s name.to e) λ extendee.
    says_number k s extendee.to e

abbrev pub field_says : (number : ℕ) (s : List ℕ) (from to : ℕ) → Bool
field_says k s a e = on_leaf false (leaf_at name_tag any_bytes s a e) λ q. says_number k s q.to e

abbrev pub may_hold : (number : ℕ) (s : List ℕ) (tag from to : ℕ) → Bool
may_hold k s t a e = elim (eqb t extension_tag) [ true ↦ extension_says k s a e | false ↦ eqb t message_tag ]
