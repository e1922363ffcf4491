-- What the code counts over the tree is how many of all numbers that the sheet declares are like the one asked for.
--
--   counts m l o s y <=> the number y is for the message m, and like that of l
--   held m l o s b i ==  how many fields among the items i themselves are like that of l, where b holds; else 0
--
-- Assumes nothing.
use Rattle.std.specs.Prelude.{◌≡◌, refl, Bool, true, false, ◌&&◌, List, [], ◌∷◌, ◌++◌, map, ℕ, ◌+◌}
use Rattle.basis.specs.Kit.{sym}
use Rattle.basis.specs.First.{only_if}
use Rattle.basis.specs.Count.{count}
use Rattle.basis.proofs.Kit.{arith}
use Rattle.basis.proofs.CountLaws.{count-append}
use mathlib.Core.List.{append_assoc}
use Rattle.octets.specs.Octets.{same_bytes}
use Rattle.field.specs.Leaf.{text}
use Rattle.sheet.specs.declared.declaration.Declaration.{Declaration}
use Rattle.sheet.specs.Tree as tree
use Rattle.sheet.specs.Tree.{Items, File, tree_of}
use Rattle.sheet.specs.Members.{fields_of}
use Rattle.scope.specs.Scope.{Scope, file_scope, message_scope}
use Rattle.names.specs.Names.{Named, inside, file_front, declared_in, declared_by, every_declared}
use Rattle.names.specs.Numbers.{Number, numbers_of, numbers_all}
use Rattle.likeness.specs.declared.Like.{Like}
use Rattle.likeness.specs.declared.Way.{Way}
use Rattle.likeness.specs.declared.Way.TheVariants.{Own, Within, Off}
use Rattle.likeness.specs.inner.Likes.{is_like, field_likes, extension_likes}
use Rattle.census.specs.inner.Census.{numbered, onward, file_way, items_asked, files_asked}
use Rattle.census.specs.declared.Asked.TheVariants.{Numbers}
use Rattle.census.proofs.WayLaws.{Stands, is_own, onward-stands, onward-same, file-stands, file-other}

numbers-append : (s : List ℕ) (xs ys : List Named) → numbers_all s (xs ++ ys) ≡ numbers_all s xs ++ numbers_all s ys
numbers-append s [] ys = refl
numbers-append s (x ∷ xs) ys = rw (numbers-append s xs ys) (sym (append_assoc (numbers_of s x) (numbers_all s xs) (numbers_all s ys)))

module _ (m : List ℕ) (l : Like) (o s : List ℕ) where
  abbrev counts : Number → Bool
  counts y = same_bytes m y.for && is_like l o s y.by

  abbrev held : Bool → Items → ℕ
  held b i = only_if b (count (is_like l o s) (fields_of i)) 0

  -- what is for one message counts where that is the message asked for
  fields-count : (n : List ℕ) (b : Bool) → same_bytes m n ≡ b → (ds : List Declaration)
      → count counts (map (λ d. record { for = n; by = d }) ds) ≡ only_if b (count (is_like l o s) ds) 0
  fields-count n true q [] = refl
  fields-count n false q [] = refl
  fields-count n true q (d ∷ ds) = rw (q, fields-count n true q ds)
  fields-count n false q (d ∷ ds) = rw (q, fields-count n false q ds)

  field-adds : (w : Way) (d : Declaration) (r : Items) → held (is_own w) (tree.field d r) ≡ field_likes l o s w d + held (is_own w) r
  unfolding field_likes
  field-adds Own d r = refl
  field-adds (Within at) d r = refl
  field-adds Off d r = refl

  held_none : (b : Bool) → held b tree.none ≡ 0
  held_none true = refl
  held_none false = refl

  -- a message, with w' its way and n its full name: its fields, what else it holds, and the rest
  message-adds : (w' : Way) (n : List ℕ) → same_bytes m n ≡ is_own w' → (i : Items) (xs ys : List Named) (u v k : ℕ)
      → u ≡ held (is_own w') i + count counts (numbers_all s xs) → v ≡ k + count counts (numbers_all s ys)
      → 0 + u + v ≡ k + count counts (map (λ d. record { for = n; by = d }) (fields_of i) ++ numbers_all s (xs ++ ys))
  message-adds w' n q i xs ys u v k p p' =
      rw (
        numbers-append s xs ys,
        count-append counts (map (λ d. record { for = n; by = d }) (fields_of i)) (numbers_all s xs ++ numbers_all s ys),
        count-append counts (numbers_all s xs) (numbers_all s ys),
        fields-count n (is_own w') q (fields_of i),
      )
      (omega (arith, p, p'))

  extension-adds : (d : Declaration) (u k v : ℕ) → u ≡ k + v
      → extension_likes m l o s d + u ≡ k + (only_if (counts (record { for = text s d.extendee; by = d })) 1 0 + v)
  unfolding extension_likes
  extension-adds d u k v p = omega (arith, p)

  -- a file, and the rest
  file-adds : (w : Way) → is_own w ≡ false → (i : Items) (xs ys : List Named) (u v : ℕ)
      → u ≡ held (is_own w) i + count counts (numbers_all s xs) → v ≡ count counts (numbers_all s ys)
      → u + v ≡ count counts (numbers_all s (xs ++ ys))
  file-adds w q i xs ys u v p p' =
      let z : held (is_own w) i ≡ 0 = rw q refl in
      rw (numbers-append s xs ys, count-append counts (numbers_all s xs) (numbers_all s ys)) (omega (arith, p, p', z))

  items_every : (w : Way) (f : List ℕ) (c : Scope) (i : Items) → Stands m f w
      → items_asked m (Numbers l) o s w i ≡ held (is_own w) i + count counts (numbers_all s (declared_in s f c i))
  items_every w f c tree.none k = rw (held_none (is_own w)) refl
  items_every w f c (tree.message n b i r) k =
      message-adds (onward m w (text s n)) (f ++ text s n) (onward-same m f (text s n) w k) i
      (declared_in s (inside (f ++ text s n)) (message_scope c (record { name = n; body = b; inside = i })) i) (declared_in s f c r) _ _ _
      (items_every (onward m w (text s n)) (inside (f ++ text s n)) (message_scope c (record { name = n; body = b; inside = i })) i
      (onward-stands m f (text s n) w k))
      (items_every w f c r k)
  items_every w f c (tree.extension d r) k = extension-adds d _ _ _ (items_every w f c r k)
  items_every w f c (tree.enumeration n b vs r) k = omega (arith, items_every w f c r k)
  items_every w f c (tree.field d r) k = rw (field-adds w d r) (omega (arith, items_every w f c r k))

  files-every : (k : ℕ) (fs : List File) → files_asked m (Numbers l) o s fs ≡ count counts (numbers_all s (declared_by s k fs))
  files-every k [] = refl
  files-every k (f ∷ fs) =
      file-adds (file_way m (text s f.package_name)) (file-other m (text s f.package_name)) f.items
      (declared_in s (file_front (text s f.package_name)) (file_scope k f) f.items) (declared_by s (k + 1) fs) _ _
      (items_every (file_way m (text s f.package_name)) (file_front (text s f.package_name)) (file_scope k f) f.items
      (file-stands m (text s f.package_name)))
      (files-every (k + 1) fs)

  -- ==== the statement
  pub numbered_is : files_asked m (Numbers l) o s (tree_of s) ≡ numbered m l o s
  unfolding every_declared
  numbered_is = files-every 0 (tree_of s)
