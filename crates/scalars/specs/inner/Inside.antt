-- What a scalar constant asks of the request that it was read from.
--
--   Inside c r <-> the span that the constant c holds is one of r, and the float that it holds is no NaN
--
-- Assumes nothing.
use Rattle.std.specs.Prelude.{List, ℕ, not, T}
use Rattle.std.specs.Float.Ieee.{is_nan}
use Rattle.field.specs.Leaf.{Lies}
use Rattle.request.specs.declared.constant.Constant.{Constant}
use Rattle.request.specs.declared.constant.Constant.TheVariants.{Bool as BoolOf, Integer, Float as FloatOf, NotANumber}
use Rattle.request.specs.declared.constant.Constant.TheVariants.{Text, Ident, Message as MessageOf, List as ListOf}

unfoldable pub Inside : Constant → List ℕ → Type 0
Inside (BoolOf b) r = Unit {0}
Inside (Integer m n) r = Unit {0}
Inside (FloatOf x) r = T (not (is_nan x))
Inside (NotANumber b) r = Unit {0}
Inside (Text p) r = Lies p r
Inside (Ident p) r = Lies p r
Inside (MessageOf p) r = Lies p r
Inside (ListOf p) r = Lies p r
