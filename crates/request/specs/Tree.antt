-- The tree that constants stand for, whatever their bytes are: what is no constant, what stands after a pair that is none, and
-- a constant deeper than 01 allows, is left out.
--
--                      PairName == the name of a pair; elements of a list and an option's own constant have none
--                     Constants == constants in order: the first one, and what follows it
--                ConstantReader == what reads a constant and puts it before what follows it
--                pair_name_of t p == the name of the tag t that stands at p
--            elements_in inner w == the elements of a list among the fields w, `inner` reading a constant
--               pairs_in inner w == the pairs of a message among the fields w
--        grown inner s l rest c == the constant c, with what it holds, and what follows it
--       if_held inner s l rest h == likewise, where there is a constant
--   constant_in d s l t a e rest == the constant of the tag t whose payload is from a to e, with d levels left, and what follows it
--
-- Assumes nothing.
use Rattle.std.specs.Prelude.{true, false, List, ℕ, zero, suc, eqb, Some, None, Option}
use Rattle.field.specs.declared.Span.{Span}
use Rattle.field.specs.Leaf.{span}
use Rattle.field.specs.Walk.{Walk, done, cut, step, walk}
use Rattle.request.specs.declared.constant.Constant.{Constant}
use Rattle.request.specs.declared.constant.Constant.TheVariants.{Bool as BoolOf, Integer, Float, NotANumber}
use Rattle.request.specs.declared.constant.Constant.TheVariants.{Text, Ident, Message, List as ListOf}
use Rattle.request.specs.Table.{pair_field_tag, pair_extension_tag}
use Rattle.request.specs.Constant.{constant_of, is_pair_name}

-- "27 field, 28 extension path, 29 type URL" [FORM-4]
pub data PairName : Type 0 where
  unnamed : PairName
  by_field : Span → PairName
  by_extension : Span → PairName
  by_url : Span → PairName

pub data Constants : Type 0 where
  none : Constants
  scalar : PairName → Constant → (rest : Constants) → Constants
  message : PairName → (inside rest : Constants) → Constants
  list : PairName → (inside rest : Constants) → Constants

-- what reads a constant: its name, its tag and the places of its payload, and what follows it
abbrev pub ConstantReader : Type 0
ConstantReader = (name : PairName) (tag from to : ℕ) (rest : Constants) → Constants

abbrev pub pair_name_of : (tag : ℕ) (place : Span) → PairName
pair_name_of t p = elim (eqb t pair_field_tag) [
  | true ↦ by_field p
  | false ↦ elim (eqb t pair_extension_tag) [ true ↦ by_extension p | false ↦ by_url p ]
]

abbrev pub elements_in : (inner : ConstantReader) → Walk → Constants
elements_in inner done = none
elements_in inner cut = none
elements_in inner (step t a e w) = inner unnamed t a e (elements_in inner w)

abbrev pub pairs_in : (inner : ConstantReader) → Walk → Constants
pairs_in inner done = none
pairs_in inner cut = none
pairs_in inner (step t a e done) = none
pairs_in inner (step t a e cut) = none
pairs_in inner (step t a e (step k b f w)) =
    elim (is_pair_name t) [ true ↦ inner (pair_name_of t (span a e)) k b f (pairs_in inner w) | false ↦ none ]

abbrev pub grown : (inner : ConstantReader) (s : List ℕ) (name : PairName) (rest : Constants) → Constant → Constants
grown inner s l rest (BoolOf b) = scalar l (BoolOf b) rest
grown inner s l rest (Integer m n) = scalar l (Integer m n) rest
grown inner s l rest (Float x) = scalar l (Float x) rest
grown inner s l rest (NotANumber b) = scalar l (NotANumber b) rest
grown inner s l rest (Text p) = scalar l (Text p) rest
grown inner s l rest (Ident p) = scalar l (Ident p) rest
grown inner s l rest (Message p) = message l (pairs_in inner (walk s p.from p.to)) rest
grown inner s l rest (ListOf p) = list l (elements_in inner (walk s p.from p.to)) rest

abbrev pub if_held : (inner : ConstantReader) (s : List ℕ) (name : PairName) (rest : Constants) → Option Constant → Constants
if_held inner s l rest None = rest
if_held inner s l rest (Some c) = grown inner s l rest c

-- "constants of any kind nested 16 deep"; "The outermost .. constant is depth 1" [LIMIT-2, READ-4]
abbrev pub constant_in : (left : ℕ) (s : List ℕ) → ConstantReader
constant_in zero s l t a e rest = rest
constant_in (suc d) s l t a e rest = if_held (constant_in d s) s l rest (constant_of s t a e)
