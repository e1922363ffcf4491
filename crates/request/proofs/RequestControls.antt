-- Closed cases of requests, which the checker computes: the request of P1 with its places, no options, no heading, and what is left out.
-- Assumes nothing.
use Rattle.std.specs.Prelude.{◌≡◌, refl, true, false, List, [], ◌∷◌, ◌++◌, ℕ, None}
use Rattle.octets.specs.Octets.{big_at}
use Rattle.field.specs.Field.{field_at}
use Rattle.field.specs.Leaf.{span, leaf_at}
use Rattle.field.specs.Walk.{walk_by, walk}
use Rattle.request.specs.declared.constant.Constant.TheVariants.{Integer}
use Rattle.request.specs.Name.{part_with, part_of, after_parts}
use Rattle.request.specs.Constant.{constant_of, numeric_of}
use Rattle.request.specs.Tree.{none, scalar, unnamed}
use Rattle.request.specs.Request.{heading_of, option_of, option_in, request_of}

-- scope `p`, options type `o.F`
abbrev pub heading : List ℕ
heading = 0x18 ∷ 0 ∷ 1 ∷ 0x70 ∷ 0x19 ∷ 0 ∷ 3 ∷ 0x6F ∷ 0x2E ∷ 0x46 ∷ []

-- the option (x) = 7
abbrev pub option : List ℕ
option = 0x08 ∷ 0 ∷ 15 ∷ 0x1B ∷ 0 ∷ 1 ∷ 0x78 ∷ 0x21 ∷ 0 ∷ 8 ∷ 0 ∷ 0 ∷ 0 ∷ 0 ∷ 0 ∷ 0 ∷ 0 ∷ 7 ∷ []

-- P1
p1 :
    request_of (heading ++ option)
    ≡ record {
      scope = span 3 4;
      options_type = span 7 10;
      options = record { parts = part_with true 16 17 ∷ []; constant = scalar unnamed (Integer false 7) none } ∷ [];
    }
unfolding request_of heading_of leaf_at field_at big_at walk_by option_in option_of part_of constant_of numeric_of
p1 = refl

p1-after : after_parts 13 (walk (heading ++ option) 13 28) ≡ 17
unfolding field_at big_at walk_by part_of
p1-after = refl

-- no options
bare : request_of heading ≡ record { scope = span 3 4; options_type = span 7 10; options = [] }
unfolding request_of heading_of leaf_at field_at big_at walk_by
bare = refl

-- no heading: the options type is missing, or comes first
headless : heading_of (0x18 ∷ 0 ∷ 1 ∷ 0x70 ∷ option) ∷ heading_of (0x19 ∷ 0 ∷ 1 ∷ 0x46 ∷ 0x18 ∷ 0 ∷ 0 ∷ []) ∷ [] ≡ None ∷ None ∷ []
unfolding heading_of leaf_at field_at big_at
headless = refl

-- nothing is read of a request with no heading
unread : request_of (0x18 ∷ 0 ∷ 1 ∷ 0x70 ∷ option) ≡ record { scope = span 0 0; options_type = span 0 0; options = [] }
unfolding request_of heading_of leaf_at field_at big_at
unread = refl

-- a field that is no option is passed, and a cut one ends the options: here an option of two direct parts, with no constant
abbrev pub others : List ℕ
others = heading ++ (0x07 ∷ 0 ∷ 1 ∷ 9 ∷ 0x08 ∷ 0 ∷ 7 ∷ 0x1A ∷ 0 ∷ 0 ∷ 0x1A ∷ 0 ∷ 1 ∷ 0x61 ∷ 0x08 ∷ 0 ∷ 16 ∷ 0x1B ∷ [])

left_out : (request_of others).options ≡ record { parts = part_with false 20 20 ∷ part_with false 23 24 ∷ []; constant = none } ∷ []
unfolding request_of heading_of leaf_at field_at big_at walk_by option_in option_of part_of
left_out = refl
