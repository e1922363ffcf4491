-- The extensions of a sheet are those that it declares, in the same order.
--
--      extension_in w == the extension that w is, where it is one
--   extension_borne b == the extension that bears the full name, where it is one
--
-- Assumes nothing.
use Rattle.std.specs.Prelude.{◌≡◌, refl, List, [], ◌∷◌, ◌++◌, ℕ, ◌+◌, Option, None, Some}
use Rattle.basis.specs.Kit.{sym, ap, ◌∙◌}
use mathlib.Core.Path.{ap₂}
use Rattle.basis.specs.First.{onto, collect}
use Rattle.field.specs.Leaf.{text}
use Rattle.sheet.specs.declared.declaration.Declaration.{Declaration}
use Rattle.sheet.specs.Tree as tree
use Rattle.sheet.specs.Tree.{Items, File}
use Rattle.sheet.specs.Members.{every_extension_of, every_extension}
use Rattle.scope.specs.Scope.{Scope, file_scope, message_scope}
use Rattle.names.specs.Names.{What, message, enumeration, extension, Named, inside, file_front, declared_in, declared_by}

abbrev pub extension_in : What → Option Declaration
extension_in (message c) = None
extension_in (enumeration e) = None
extension_in (extension d) = Some d

abbrev pub extension_borne : Named → Option Declaration
extension_borne b = extension_in b.what

onto-append : {A : Type 0} (o : Option A) (xs ys : List A) → onto o (xs ++ ys) ≡ onto o xs ++ ys
onto-append None xs ys = refl
onto-append (Some x) xs ys = refl

collect-append : {A B : Type 0} (f : A → Option B) (xs ys : List A) → collect f (xs ++ ys) ≡ collect f xs ++ collect f ys
collect-append f [] ys = refl
collect-append f (x ∷ xs) ys = ap (onto (f x)) (collect-append f xs ys) ∙ onto-append (f x) (collect f xs) (collect f ys)

pub extension-borne : (w : What) (d : Declaration) → extension_in w ≡ Some d → w ≡ extension d
extension-borne (message c) d e = cc
extension-borne (enumeration x) d e = cc
extension-borne (extension x) d e = cc

module _ (s : List ℕ) where
  extensions-in : (f : List ℕ) (c : Scope) (i : Items) → every_extension_of i ≡ collect extension_borne (declared_in s f c i)
  extensions-in f c tree.none = refl
  extensions-in f c (tree.message n b i r) =
      let m = message_scope c (record { name = n; body = b; inside = i }) in
      ap₂ ◌++◌ (extensions-in (inside (f ++ text s n)) m i) (extensions-in f c r)
      ∙ sym (collect-append extension_borne (declared_in s (inside (f ++ text s n)) m i) (declared_in s f c r))
  extensions-in f c (tree.extension d r) = ap (λ (ds : List Declaration). d ∷ ds) (extensions-in f c r)
  extensions-in f c (tree.enumeration n b vs r) = extensions-in f c r
  extensions-in f c (tree.field d r) = extensions-in f c r

  pub extensions-by : (k : ℕ) (fs : List File) → every_extension fs ≡ collect extension_borne (declared_by s k fs)
  extensions-by k [] = refl
  extensions-by k (f ∷ fs) =
      let t = file_front (text s f.package_name) in
      ap₂ ◌++◌ (extensions-in t (file_scope k f) f.items) (extensions-by (k + 1) fs)
      ∙ sym (collect-append extension_borne (declared_in s t (file_scope k f) f.items) (declared_by s (k + 1) fs))
