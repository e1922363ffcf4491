-- Whether a declaration of a sheet is like another one, and for the message asked for.
--
--                 Placed o l <-> name and type path of what is to be like lie in its sheet o
--             is_like l o s e <=> the declaration e of the sheet s is like that of l, which is of the sheet o
--       field_likes l o s w d ==  1 where the scope is the message and its field d is like that of l
--   extension_likes m l o s d ==  1 where the extension d is of the message and is like that of l
--          declared_likes f r ==  what f gives of the declaration that a reader answered, 0 where there is none
--
-- Assumes nothing.
use Rattle.std.specs.Prelude.{Bool, ◌&&◌, List, ℕ, eqb, Some, None, Option}
use Rattle.basis.specs.First.{only_if}
use Rattle.field.specs.Leaf.{Lies}
use Rattle.sheet.specs.declared.declaration.Declaration.{Declaration}
use Rattle.scope.specs.Scope.{extends}
use Rattle.names.specs.Contained.{alike}
use Rattle.likeness.specs.declared.Like.{Like}
use Rattle.likeness.specs.declared.Way.{Way}
use Rattle.likeness.specs.declared.Way.TheVariants.{Own, Within, Off}

pub record Placed (o : List ℕ) (l : Like) : Type 0 where
  pub name : Lies l.declaration.name o
  pub path : Lies l.declaration.shape.path o

unfoldable pub is_like : Like → (o s : List ℕ) → Declaration → Bool
is_like l o s e = only_if l.whole (alike o s l.declaration e) (eqb l.declaration.shape.number e.shape.number)

unfoldable pub field_likes : Like → (o s : List ℕ) → Way → Declaration → ℕ
field_likes l o s Own d = only_if (is_like l o s d) 1 0
field_likes l o s (Within at) d = 0
field_likes l o s Off d = 0

unfoldable pub extension_likes : (m : List ℕ) → Like → (o s : List ℕ) → Declaration → ℕ
extension_likes m l o s d = only_if (extends s m d && is_like l o s d) 1 0

abbrev pub declared_likes : (Declaration → ℕ) → Option Declaration → ℕ
declared_likes f None = 0
declared_likes f (Some d) = f d
