-- What the code counts over the tree is how many of all declarations bear the full name; where that does not go on in a scope, nothing that
-- the scope holds counts.
-- Assumes nothing.
use Rattle.std.specs.Prelude.{◌≡◌, refl, Bool, true, false, ◌&&◌, List, [], ◌∷◌, ◌++◌, ℕ, ◌+◌}
use Rattle.basis.specs.Kit.{sym, ◌∙◌}
use Rattle.basis.specs.First.{only_if}
use Rattle.basis.proofs.Kit.{arith}
use Rattle.basis.proofs.CountLaws.{count-append}
use Rattle.field.specs.Leaf.{text}
use Rattle.field.specs.Walk.{walk}
use Rattle.sheet.specs.Table.{message_tag, extension_tag, enum_tag}
use Rattle.sheet.specs.Tree as tree
use Rattle.sheet.specs.Tree.{Items, File, tree_of, items_in}
use Rattle.scope.specs.Scope.{Scope, file_scope, message_scope}
use Rattle.names.specs.Names.{Named, inside, file_front, declared_in, declared_by, every_declared, of_kind, bears}
use Rattle.likeness.specs.declared.Way.{Way}
use Rattle.likeness.specs.declared.Way.TheVariants.{Own, Within, Off}
use Rattle.census.specs.declared.Asked.{Asked}
use Rattle.census.specs.declared.Asked.TheVariants.{Bearers, Numbers}
use Rattle.census.specs.inner.Census.{bearing, onward, file_way, wanted, own, open_to, items_asked, files_asked}
use Rattle.census.proofs.WayLaws.{Stands, is_own, onward-stands, onward-same, file-stands}

wanted-too : (c b : Bool) → only_if b (only_if {A = ℕ} c 1 0) 0 ≡ only_if (c && b) 1 0
wanted-too true true = refl
wanted-too true false = refl
wanted-too false true = refl
wanted-too false false = refl

module _ (k : ℕ) (m o s : List ℕ) where
  -- ---- nothing counts in a scope in which the full name does not go on
  items-shut : (w : Way) → ((n : List ℕ) → onward m w n ≡ Off) → (i : Items) → items_asked m (Bearers k) o s w i ≡ 0
  unfolding onward
  items-shut w h tree.none = refl
  items-shut w h (tree.message n b i r) = rw (h (text s n)) (omega (arith, items-shut Off (λ _. refl) i, items-shut w h r))
  items-shut w h (tree.extension d r) = rw (h (text s d.name)) (omega (arith, items-shut w h r))
  items-shut w h (tree.enumeration n b vs r) = rw (h (text s n)) (omega (arith, items-shut w h r))
  items-shut w h (tree.field d r) = omega (arith, items-shut w h r)

  -- ---- all that bear it are counted
  bearing-append : (xs ys : List Named) → bearing k m (xs ++ ys) ≡ bearing k m xs + bearing k m ys
  bearing-append = count-append (λ b. of_kind k b && bears m b)

  own-bears : (g : ℕ) (w : Way) (b : Bool) → b ≡ is_own w → own (Bearers k) g w ≡ only_if (wanted k g && b) 1 0
  own-bears g Own b q = rw q (wanted-too (wanted k g) true)
  own-bears g (Within at) b q = rw q (wanted-too (wanted k g) false)
  own-bears g Off b q = rw q (wanted-too (wanted k g) false)

  items-bear : (w : Way) (f : List ℕ) (c : Scope) (i : Items) → Stands m f w
      → items_asked m (Bearers k) o s w i ≡ bearing k m (declared_in s f c i)
  items-bear w f c tree.none z = refl
  items-bear w f c (tree.message n b i r) z =
      let d : Scope = message_scope c (record { name = n; body = b; inside = i }) in
      let x = inside (f ++ text s n) in
      omega (
        arith,
        own-bears message_tag (onward m w (text s n)) _ (onward-same m f (text s n) w z),
        bearing-append (declared_in s x d i) (declared_in s f c r),
        items-bear (onward m w (text s n)) x d i (onward-stands m f (text s n) w z),
        items-bear w f c r z,
      )
  items-bear w f c (tree.extension d r) z =
      omega (arith, own-bears extension_tag (onward m w (text s d.name)) _ (onward-same m f (text s d.name) w z), items-bear w f c r z)
  items-bear w f c (tree.enumeration n b vs r) z =
      omega (arith, own-bears enum_tag (onward m w (text s n)) _ (onward-same m f (text s n) w z), items-bear w f c r z)
  items-bear w f c (tree.field d r) z = omega (arith, items-bear w f c r z)

  files-bear : (j : ℕ) (fs : List File) → files_asked m (Bearers k) o s fs ≡ bearing k m (declared_by s j fs)
  files-bear j [] = refl
  files-bear j (f ∷ fs) =
      let p = text s f.package_name in
      omega (
        arith,
        bearing-append (declared_in s (file_front p) (file_scope j f) f.items) (declared_by s (j + 1) fs),
        items-bear (file_way m p) (file_front p) (file_scope j f) f.items (file-stands m p),
        files-bear (j + 1) fs,
      )

  -- ==== the statement
  pub bearers-is : files_asked m (Bearers k) o s (tree_of s) ≡ bearing k m (every_declared s)
  unfolding every_declared
  bearers-is = files-bear 0 (tree_of s)

-- ==== and that what is not looked at counts for nothing
pub open-whole : (m : List ℕ) (x : Asked) (o s : List ℕ) (w : Way) (d a e : ℕ)
    → items_asked m x o s w (items_in d s (walk s a (open_to x w a e))) ≡ items_asked m x o s w (items_in d s (walk s a e))
unfolding onward
open-whole m (Bearers k) o s Own d a e =
    items-shut k m o s Own (λ _. refl) (items_in d s (walk s a a)) ∙ sym (items-shut k m o s Own (λ _. refl) (items_in d s (walk s a e)))
open-whole m (Bearers k) o s (Within at) d a e = refl
open-whole m (Bearers k) o s Off d a e =
    items-shut k m o s Off (λ _. refl) (items_in d s (walk s a a)) ∙ sym (items-shut k m o s Off (λ _. refl) (items_in d s (walk s a e)))
open-whole m (Numbers l) o s w d a e = refl
