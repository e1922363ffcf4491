-- Closed cases of the definitions, which the checker computes: of each rule one that holds, one at the limit, one refused just past it.
-- Assumes nothing.
use Rattle.std.specs.Prelude.{◌≡◌, refl, List, [], ◌∷◌, map, ℕ, None, Some}
use lib.ListN.{replicate}
use Rattle.reply.specs.declared.Refusal.TheVariants.{BadRequest, BeyondLimit}
use Rattle.reply.specs.Outcome.{refuse, give}
use Rattle.oneofs.specs.Fields.{oneofs, lower_fields, real, synthetic, oneof, groups_after, groups, opened_after, opened, real_count}
use Rattle.oneofs.specs.Fields.{declared, synthetic_last, index_of, lower_fields_by}

-- each of the words; a stray member at the start, after a plain field and after an optional one; two oneofs, the first empty; another word
fields :
    map lower_fields
    ((0 ∷ 1 ∷ 2 ∷ 3 ∷ 3 ∷ 0 ∷ 1 ∷ [])
    ∷ (3 ∷ [])
    ∷ (2 ∷ 0 ∷ 3 ∷ [])
    ∷ (1 ∷ 3 ∷ [])
    ∷ (2 ∷ 2 ∷ 3 ∷ [])
    ∷ (4 ∷ [])
    ∷ []
    ∷ [])
    ≡ give (0 ∷ 1 ∷ 2 ∷ 2 ∷ 0 ∷ 3 ∷ [])
    ∷ refuse BadRequest
    ∷ refuse BadRequest
    ∷ refuse BadRequest
    ∷ give (2 ∷ [])
    ∷ refuse BadRequest
    ∷ give []
    ∷ []
unfolding lower_fields oneofs
fields = refl

-- 4,096 words are taken and 4,097 are not; too many words come before a wrong one
at_most : lower_fields (replicate 4096 0) ≡ give (replicate 4096 0)
unfolding lower_fields oneofs
at_most = refl

too_many : lower_fields (replicate 4097 7) ≡ refuse BeyondLimit
unfolding lower_fields
too_many = refl

-- ---- by a numbering

-- the groups of an optional field and of a member, and a plain one; a member of the oneof that was opened last; a stray one; another word
groups_of :
    map groups
    ((1 ∷ 2 ∷ 3 ∷ 0 ∷ []) ∷ (2 ∷ 2 ∷ 3 ∷ 1 ∷ []) ∷ (2 ∷ 0 ∷ 3 ∷ []) ∷ (4 ∷ []) ∷ [])
    ≡ give (Some (oneof synthetic 0 0) ∷ Some (oneof real 0 1) ∷ None ∷ [])
    ∷ give (Some (oneof real 1 0) ∷ Some (oneof synthetic 2 0) ∷ [])
    ∷ refuse BadRequest
    ∷ refuse BadRequest
    ∷ []
unfolding groups_after
groups_of = refl

-- the oneof without a member is opened too, and counts
opened_of : opened (1 ∷ 2 ∷ 2 ∷ 3 ∷ []) ≡ oneof synthetic 0 0 ∷ oneof real 0 1 ∷ oneof real 1 1 ∷ []
unfolding opened_after
opened_of = refl

real-count : real_count (1 ∷ 2 ∷ 2 ∷ 3 ∷ 3 ∷ 0 ∷ []) ≡ 2
real-count = refl

abbrev lists : List (List ℕ)
lists =
    (1 ∷ 2 ∷ 3 ∷ [])
    ∷ (0 ∷ 1 ∷ 2 ∷ 3 ∷ 3 ∷ 1 ∷ [])
    ∷ (1 ∷ 2 ∷ 2 ∷ 3 ∷ [])
    ∷ (2 ∷ 3 ∷ 1 ∷ [])
    ∷ (2 ∷ 0 ∷ 3 ∷ [])
    ∷ []

in_order :
    map (lower_fields_by declared) lists
    ≡ give (1 ∷ 2 ∷ [])
    ∷ give (0 ∷ 1 ∷ 2 ∷ 2 ∷ 3 ∷ [])
    ∷ give (1 ∷ 3 ∷ [])
    ∷ give (1 ∷ 2 ∷ [])
    ∷ refuse BadRequest
    ∷ []
unfolding lower_fields_by groups_after index_of
in_order = refl

synthetic-last :
    map (lower_fields_by synthetic_last) lists
    ≡ give (2 ∷ 1 ∷ [])
    ∷ give (0 ∷ 2 ∷ 1 ∷ 1 ∷ 3 ∷ [])
    ∷ give (3 ∷ 2 ∷ [])
    ∷ give (1 ∷ 2 ∷ [])
    ∷ refuse BadRequest
    ∷ []
unfolding lower_fields_by groups_after index_of
synthetic-last = refl

-- another numbering comes before too many words, and these before a wrong word, in both numberings
at-most-by : lower_fields_by synthetic_last (replicate 4096 0) ≡ give (replicate 4096 0)
unfolding lower_fields_by groups_after index_of
at-most-by = refl

too-many-by :
    map (λ numbering. lower_fields_by numbering (replicate 4097 7)) (0 ∷ 1 ∷ 2 ∷ [])
    ≡ refuse BeyondLimit
    ∷ refuse BeyondLimit
    ∷ refuse BadRequest
    ∷ []
unfolding lower_fields_by
too-many-by = refl

unnumbered : lower_fields_by 2 [] ≡ refuse BadRequest
unfolding lower_fields_by
unnumbered = refl
