-- Closed cases of the counts, which the checker computes: P1's sheet, the empty sheet, messages as deep as 01 allows and deeper; the parts
-- of several options.
-- Assumes nothing.
use Rattle.std.specs.Prelude.{◌≡◌, refl, List, [], ◌∷◌, ◌++◌, map, ℕ}
use Rattle.octets.specs.Octets.{big_at}
use Rattle.field.specs.Field.{field_at}
use Rattle.field.specs.Leaf.{leaf_at}
use Rattle.field.specs.Walk.{walk_by}
use Rattle.sheet.specs.Table.{file_tag, message_tag, extension_tag, enum_tag, field_tag, value_tag}
use Rattle.sheet.proofs.Controls.{tree, p1, inside, deep}
use Rattle.request.specs.Name.{part_of}
use Rattle.request.specs.Request.{heading_of, option_of, option_in, request_of}
use Rattle.request.proofs.RequestControls.{heading, option, others}
use Rattle.counts.specs.Declarations.{files_hold}
use Rattle.counts.specs.Options.{parts_of}

-- files, messages, extensions, enums, fields, values
counts : List ℕ → List ℕ
unfolding tree
counts s = map (λ k. files_hold k (tree s)) (file_tag ∷ message_tag ∷ extension_tag ∷ enum_tag ∷ field_tag ∷ value_tag ∷ [])

p1-counts : counts p1 ≡ 2 ∷ 1 ∷ 1 ∷ 0 ∷ 0 ∷ 0 ∷ []
unfolding counts
p1-counts = refl

inside-counts : counts inside ≡ 1 ∷ 2 ∷ 0 ∷ 1 ∷ 1 ∷ 2 ∷ []
unfolding counts
inside-counts = refl

empty-counts : counts [] ≡ 0 ∷ 0 ∷ 0 ∷ 0 ∷ 0 ∷ 0 ∷ []
unfolding counts
empty-counts = refl

-- "messages 16 deep": the seventeenth is left out
deepest : map (λ n. files_hold message_tag (tree (deep n))) (15 ∷ 16 ∷ 17 ∷ []) ≡ 15 ∷ 16 ∷ 16 ∷ []
unfolding tree
deepest = refl

-- parts are counted over all options
counted : parts_of (request_of others).options ∷ parts_of (request_of (heading ++ option ++ option)).options ∷ [] ≡ 2 ∷ 2 ∷ []
unfolding request_of heading_of leaf_at field_at big_at walk_by option_in option_of part_of
counted = refl
