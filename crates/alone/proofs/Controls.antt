-- Closed cases of the definitions, which the checker computes: of a request of three options each one alone, and what they come to where
-- nothing is found; of an option that is not there the heading alone; of no heading all the bytes.
-- Assumes nothing.
use Rattle.std.specs.Prelude.{◌≡◌, refl, false, List, [], ◌∷◌, ◌++◌, map, ℕ, Option, None, Some, Err}
use lib.ListN.{get_elem?}
use mathlib.Core.Option as optional
use Prim.Native.String.{String}
use Rattle.octets.specs.Octets.{same_bytes, big_at}
use Rattle.octets.specs.Ascii.{ascii}
use Rattle.reply.specs.declared.Refusal.TheVariants.{ExtensionNotFound, MessageNotFound, BuiltinOptionNotFound}
use Rattle.field.specs.Field.{field_at}
use Rattle.field.specs.Leaf.{span, leaf_at}
use Rattle.field.specs.Walk.{walk_by}
use Rattle.sheet.specs.Tree.{items_in}
use Rattle.sheet.proofs.Sheets.{tagged}
use Rattle.request.specs.Table as tags
use Rattle.request.specs.Constant.{bool_of, constant_of}
use Rattle.request.specs.Name.{part_of}
use Rattle.request.specs.Request.{RequestOption, heading_of, option_of, option_in, request_of}
use Rattle.lookups.specs.Lookups.{Lookups, Message}
use Rattle.steps.specs.Steps.{step_of}
use Rattle.builtins.specs.Builtins.{is_skipped, builtin_of}
use Rattle.faults.specs.declared.Fault.{Fault}
use Rattle.faults.specs.Faults.{fault_at}
use Rattle.options.specs.Settle.{settle}
use Rattle.alone.specs.Alone.{alone, fault_of}

-- ---- a request in the scope `o` whose options are those of the type `o.F`
abbrev request : List ℕ → List ℕ
request options = tagged tags.scope_tag (ascii "o") ++ tagged tags.options_type_tag (ascii "o.F") ++ options

abbrev direct : String → List ℕ
direct n = tagged tags.direct_part_tag (ascii n)

abbrev ext : String → List ℕ
ext n = tagged tags.extension_part_tag (ascii n)

-- the option of these parts that is true
abbrev option : List ℕ → List ℕ
option parts = tagged tags.option_tag (parts ++ tagged tags.bool_tag (1 ∷ []))

abbrev first : List ℕ
first = option (direct "flag")

abbrev second : List ℕ
second = option (ext "o.long_name" ++ direct "x")

abbrev third : List ℕ
third = option (direct "y")

abbrev three : List ℕ
three = request (first ++ second ++ third)

taken_out : map (alone three) (0 ∷ 1 ∷ 2 ∷ 3 ∷ []) ≡ request first ∷ request second ∷ request third ∷ request [] ∷ []
unfolding alone heading_of leaf_at field_at big_at walk_by
taken_out = refl

no-heading : alone (first ++ second) 1 ≡ first ++ second
unfolding alone heading_of leaf_at field_at big_at
no-heading = refl

-- ---- what they come to in an empty message, where nothing is found
abbrev nothing : Lookups
nothing = record {
  message = λ p. Err MessageNotFound;
  enumeration = λ p. Err MessageNotFound;
  extension = λ c m n. Err ExtensionNotFound;
}

abbrev empty : Message
empty = record { name = ascii "o.F"; place = record { file = 0; message = false; body = span 0 0; left = 0 } }

abbrev fault_where : (r : List ℕ) → optional.Option RequestOption → Option Fault
fault_where r optional.none = None
fault_where r (optional.some o) = fault_of (settle nothing [] r (ascii "o") empty o)

abbrev fault_in : (r : List ℕ) (option : ℕ) → Option Fault
fault_in r i = fault_where r (get_elem? (request_of r).options i)

abbrev faults : List (Option Fault)
faults = map (λ w. Some (fault_at 0 w)) (BuiltinOptionNotFound ∷ ExtensionNotFound ∷ BuiltinOptionNotFound ∷ [])

together : map (fault_in three) (0 ∷ 1 ∷ 2 ∷ []) ≡ faults
unfolding request_of heading_of leaf_at field_at big_at walk_by option_in option_of part_of constant_of bool_of items_in settle builtin_of is_skipped
    same_bytes step_of
together = refl

each-alone : map (λ i. fault_in (alone three i) 0) (0 ∷ 1 ∷ 2 ∷ []) ≡ faults
unfolding alone request_of heading_of leaf_at field_at big_at walk_by option_in option_of part_of constant_of bool_of items_in settle builtin_of
    is_skipped same_bytes step_of
each-alone = refl
