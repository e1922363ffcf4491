-- The tree that a request's bytes stand for, whatever they are: what is no option is left out. Of a request that is fine nothing is.
--
--                  Option == the parts of a name, and a constant
--                 Request == the scope, the path of the options type, and the options
--             heading_of s == scope and options type as they are written, and where the options start
--     constant_of_field s f == the constant that the field f is
--          option_of s a e == the option whose payload is from a to e
--   option_in s t a e rest == the option that a field is, and what follows it
--           options_in s w == the options among the fields w
--         request_with s h == the request of a heading, and of none
--             request_of s == the request
--
-- Assumes nothing.
use Rattle.std.specs.Prelude.{true, false, List, [], ◌∷◌, ℕ, eqb, length, None, Some, Option}
use Rattle.limits.specs.Figures.{most_constants}
use Rattle.field.specs.declared.Span.{Span}
use Rattle.field.specs.Field.{field_at}
use Rattle.field.specs.Leaf.{span, any_bytes, on_leaf, leaf_at}
use Rattle.field.specs.Walk.{Walk, done, cut, step, walk}
use Rattle.request.specs.declared.name.Part.{Part}
use Rattle.request.specs.Table.{scope_tag, options_type_tag, option_tag}
use Rattle.request.specs.Name.{parts_in, after_parts}
use Rattle.request.specs.Tree.{Constants, none, unnamed, constant_in}
use Rattle.field.specs.declared.Field.{Field}
use Rattle.request.specs.declared.heading.Heading.{Heading}

pub record RequestOption : Type 0 where
  pub parts : List Part
  pub constant : Constants

pub record Request : Type 0 where
  pub scope : Span
  pub options_type : Span
  pub options : List RequestOption

-- "18 scope, 19 options type path, then 08 options" [FORM-2]
unfoldable pub heading_of : List ℕ → Option Heading
heading_of s =
    on_leaf None (leaf_at scope_tag any_bytes s 0 (length s)) λ scope.
    on_leaf None (leaf_at options_type_tag any_bytes s scope.to (length s)) λ type.
    Some (record { scope = scope; options_type = type; options = type.to })

-- "one or more of 1A direct part, 1B extension part; one constant" [FORM-2]
abbrev pub constant_of_field : (s : List ℕ) → Option Field → Constants
constant_of_field s None = none
constant_of_field s (Some f) = constant_in most_constants s unnamed f.tag f.from f.to none

unfoldable pub option_of : (s : List ℕ) (from to : ℕ) → RequestOption
option_of s a e =
    record { parts = parts_in (walk s a e); constant = constant_of_field s (field_at s (after_parts a (walk s a e)) e) }

unfoldable pub option_in : (s : List ℕ) (tag from to : ℕ) (rest : List RequestOption) → List RequestOption
option_in s t a e rest = elim (eqb t option_tag) [ true ↦ option_of s a e ∷ rest | false ↦ rest ]

abbrev pub options_in : (s : List ℕ) → Walk → List RequestOption
options_in s done = []
options_in s cut = []
options_in s (step t a e w) = option_in s t a e (options_in s w)

abbrev pub request_with : (s : List ℕ) → Option Heading → Request
request_with s None = record { scope = span 0 0; options_type = span 0 0; options = [] }
request_with s (Some h) =
    record { scope = h.scope; options_type = h.options_type; options = options_in s (walk s h.options (length s)) }

unfoldable pub request_of : List ℕ → Request
request_of s = request_with s (heading_of s)
