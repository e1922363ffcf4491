-- The laws of the look-up by number: the ways through the functions that look at one field, and the loops over the fields.
--
--   item_where good d s t a e == the first extension that passes the test in a field of a scope, with d levels of messages left
--     file_where good s t a e == the first one in a field of a sheet
--
-- Assumes nothing.
use Rattle.std.specs.Prelude.{◌≡◌, refl, Bool, true, false, List, [], ℕ, ◌-◌, eqb, length, None, Some, Option}
use Rattle.basis.specs.Kit.{sym, ◌∙◌}
use Rattle.basis.proofs.Kit.{arith, eq-eqb, ne_eqb, not-true, not-false}
use mathlib.Core.List.{append-nil}
use borrow.Author.Tests.{eqb-false}
use Rattle.basis.proofs.Never.{never}
use Rattle.limits.specs.Figures.{most_messages}
use Rattle.field.specs.Leaf.{is_text, any_bytes, leaf_at}
use Rattle.field.specs.Walk.{Walk, walk}
use Rattle.field.proofs.LeafLaws.{leaf_inside}
use Rattle.field.proofs.Seek.{seek, seek_is}
use Rattle.field.specs.declared.fields.Fields.{Fields}
use Rattle.field.specs.Fields.{Goes}
use Rattle.field.proofs.InFields.{sought-next, SeekingIn, sought-start, sought_laws}
use Rattle.sheet.specs.declared.declaration.Declaration.{Declaration}
use Rattle.sheet.specs.Table.{file_tag, message_tag, extension_tag, field_tag, package_tag, name_tag}
use Rattle.sheet.specs.Tree.{none, message_in, items_in, files_in}
use Rattle.sheet.specs.Members.{every_extension_of, every_extension}
use Rattle.sheet.proofs.TreeLaws.{item-message, message-beyond, message-unnamed, message-named}
use Rattle.sheet.proofs.TreeLaws.{file-other, file-unnamed, file-named, tree-files}
use Rattle.sheet.proofs.MemberLaws.{every-extension-item, every-extension-flat, every-extension-file}
use Rattle.scope.specs.declared.lookup.LookupScope.{LookupScope}
use Rattle.basis.specs.First.{first}
use Rattle.scope.specs.Scope.{Scope, holding}
use Rattle.scope.specs.inner.Answers.{declared}
use Rattle.scope.specs.inner.Steps.{tells_declared, first_of, declaration_at, item_at, file_at}
use Rattle.numbers.specs.Number.{has_number, is_extension_of, field_numbered, extension_numbered, declaration_of}
use Rattle.scope.proofs.Answers.{declared-or-else, declared-append, declared-listed, whose_laws}
use Rattle.named.proofs.DeclaredPlaces.{declaration-at-ordered, declaration-at-places, places_laws}
use Rattle.named.proofs.NamedLaws.{declaration_where, declarations-seek}
use Rattle.numbers.specs.inner.Says.{extension_says, may_hold}
use Rattle.numbers.proofs.SaysLaws.{field-tag-other, field-says-other, extension-tag-other, extension-says-other}
use Rattle.field.specs.declared.Field.{Field}
use Rattle.field.specs.declared.Span.{Span}

-- ---- field_numbered_at
pub ruleset field_numbered_at_laws = (whose_laws, eq-eqb, ne_eqb, field-tag-other, field-says-other, not-true, not-false)

-- ---- extension_read_at
module _ (s m : List ℕ) (k : ℕ) (d : Declaration) where
  pub extension-of-other-number : (d.shape.number ≡ k → ⊥) → is_extension_of s m k d ≡ false
  extension-of-other-number h = rw (ne_eqb d.shape.number k h)

  module _ (h : d.shape.number ≡ k) (b : Bool) (q : b ≡ is_text s m d.extendee) where
    pub extension-of-other-message : b ≡ false → is_extension_of s m k d ≡ false
    extension-of-other-message g = rw (eq-eqb d.shape.number k h, ← q, g)

    pub extension-of-both : b ≡ true → is_extension_of s m k d ≡ true
    extension-of-both g = rw (eq-eqb d.shape.number k h, ← q, g)

pub ruleset extension_read_at_laws = (
  whose_laws,
  extension-of-other-number,
  extension-of-other-message,
  extension-of-both,
  declaration-at-ordered,
  declaration-at-places,
  places_laws,
  not-true,
  not-false,
)

-- ---- may_hold
module _ (k : ℕ) (s : List ℕ) (t a e : ℕ) where
  pub may-extension : t ≡ extension_tag → (b : Bool) → b ≡ extension_says k s a e → b ≡ may_hold k s t a e
  may-extension h b q = rw (eq-eqb t extension_tag h, may_hold) q

  pub may-other : (t ≡ extension_tag → ⊥) → eqb t message_tag ≡ may_hold k s t a e
  may-other h = rw (ne_eqb t extension_tag h, may_hold) refl

pub ruleset may_hold_laws = (may-extension, may-other)

-- ---- field_numbered
pub field-numbered-is : (k : ℕ) (s : List ℕ) (p : LookupScope) (r : Option Declaration)
    → r ≡ seek None (first_of tells_declared) (declaration_where (has_number k) field_tag s) (walk s p.body.from p.body.to)
    → r ≡ declared (field_numbered k (holding s p))
field-numbered-is k s p r q = q ∙ sym (declarations-seek (has_number k) field_tag p.left s (walk s p.body.from p.body.to))

pub ruleset field_numbered_laws = (field-numbered-is, sought_laws)

-- ---- extension_in_item and extension_in_items
module _ (good : Declaration → Bool) (d : ℕ) (s : List ℕ) (t a e : ℕ) where
  pub in-item-other : (t ≡ message_tag → ⊥) → (r : Option Declaration) → r ≡ declaration_where good extension_tag s t a e
      → r ≡ declared (first good (every_extension_of (item_at d s t a e)))
  unfolding declaration_at
  in-item-other h r q = rw (every-extension-flat d s t a e none h, append-nil, declared-listed) q

  module _ (h : t ≡ message_tag) where
    pub in-item-beyond : d ≡ 0 → None ≡ declared (first good (every_extension_of (item_at d s t a e)))
    in-item-beyond z = rw (item-message (message_in d s) s t a e none h, message-beyond d s a e none z)

    module _ (l : Option Span) (q : l ≡ leaf_at name_tag any_bytes s a e) where
      pub in-item-unnamed : l ≡ None → None ≡ declared (first good (every_extension_of (item_at d s t a e)))
      in-item-unnamed g = rw (item-message (message_in d s) s t a e none h, message-unnamed d s a e none l q g)

      pub in-item-named : (d ≡ 0 → ⊥) → (u : Span) → l ≡ Some u → (x : Option Declaration)
          → x ≡ declared (first good (every_extension_of (items_in (d - 1) s (walk s u.to e))))
          → x ≡ declared (first good (every_extension_of (item_at d s t a e)))
      in-item-named z u g x p =
          rw (item-message (message_in d s) s t a e none h, message-named d s a e none z l q u g, append-nil) p

pub ruleset in_item_laws = (in-item-other, in-item-beyond, in-item-unnamed, in-item-named, leaf_inside)

abbrev pub item_where : (good : Declaration → Bool) (left : ℕ) (s : List ℕ) (tag from to : ℕ) → Option Declaration
item_where good d s t a e = declared (first good (every_extension_of (item_at d s t a e)))

pub in-items-is : (good : Declaration → Bool) (d : ℕ) (s : List ℕ) (w : Walk) (r : Option Declaration)
    → r ≡ seek None (first_of tells_declared) (item_where good d s) w → r ≡ declared (first good (every_extension_of (items_in d s w)))
unfolding items_in
in-items-is good d s w r q =
    q ∙ sym (seek_is None (first_of tells_declared) (item_where good d s)
    (λ w. declared (first good (every_extension_of (items_in d s w)))) refl refl
    (λ t a e w. rw (every-extension-item d s t a e (items_in d s w), declared-append)) w)

-- a field that may not hold one is passed over
module _ (m : List ℕ) (k d : ℕ) (s : List ℕ) where
  no-message : (t a e : ℕ) → t ≡ message_tag → may_hold k s t a e ≡ true
  no-message t a e h = rw h

  passed_none : (t a e : ℕ) → may_hold k s t a e ≡ false → None ≡ item_where (is_extension_of s m k) d s t a e
  passed_none t a e q =
      in-item-other (is_extension_of s m k) d s t a e (λ h. never (let u = no-message t a e h in cc)) None (go (eqb t extension_tag) refl q)
    where
      go : (c : Bool) → eqb t extension_tag ≡ c → elim c [ true ↦ extension_says k s a e | false ↦ eqb t message_tag ] ≡ false
          → None ≡ declaration_where (is_extension_of s m k) extension_tag s t a e
      go true h g = extension-says-other k s t a e m (extension_says k s a e) refl g
      go false h g = extension-tag-other k s t a e m (eqb-false t extension_tag h)

  pub in-items-pass : {from to : ℕ} {it : Fields} → SeekingIn None (first_of tells_declared) (item_where (is_extension_of s m k) d s) s from to it
      → (it' : Fields) (o : Option Field) → Goes it it' o → (w : Field) → o ≡ Some w → (b : Bool) → b ≡ may_hold k s w.tag w.from w.to
      → b ≡ false → SeekingIn None (first_of tells_declared) (item_where (is_extension_of s m k) d s) s from to it'
  in-items-pass l it' o x w g b u z =
      sought-next l it' o x w g None (passed_none w.tag w.from w.to (sym u ∙ z)) refl (λ y. refl)

pub ruleset in_items_laws = (in-items-is, in-items-pass, sought_laws, not-true, not-false)

-- ---- extension_in_file
module _ (good : Declaration → Bool) (s : List ℕ) (t a e : ℕ) where
  pub in-file-other : (t ≡ file_tag → ⊥) → None ≡ declared (first good (every_extension (file_at s t a e)))
  in-file-other h = rw (file-other s t a e [] h)

  module _ (h : t ≡ file_tag) (r : Option Span) (q : r ≡ leaf_at package_tag any_bytes s a e) where
    pub in-file-unnamed : r ≡ None → None ≡ declared (first good (every_extension (file_at s t a e)))
    in-file-unnamed g = rw (file-unnamed s t a e [] h r q g)

    pub in-file-named : (u : Span) → r ≡ Some u → (x : Option Declaration)
        → x ≡ declared (first good (every_extension_of (items_in most_messages s (walk s u.to e))))
        → x ≡ declared (first good (every_extension (file_at s t a e)))
    in-file-named u g x p = rw (file-named s t a e [] h r q u g, append-nil) p

pub ruleset in_file_laws = (in-file-other, in-file-unnamed, in-file-named, leaf_inside)

-- ---- extension_numbered
abbrev pub file_where : (good : Declaration → Bool) (s : List ℕ) (tag from to : ℕ) → Option Declaration
file_where good s t a e = declared (first good (every_extension (file_at s t a e)))

module _ (s m : List ℕ) (k : ℕ) where
  pub extension-numbered-is : (r : Option Declaration)
      → r ≡ seek None (first_of tells_declared) (file_where (is_extension_of s m k) s) (walk s 0 (length s))
      → r ≡ declared (extension_numbered s m k)
  extension-numbered-is r q = q ∙ rw (tree-files s) (sym (files (walk s 0 (length s))))
    where
      files : (w : Walk) → declared (first (is_extension_of s m k) (every_extension (files_in s w)))
          ≡ seek None (first_of tells_declared) (file_where (is_extension_of s m k) s) w
      files =
          seek_is None (first_of tells_declared) (file_where (is_extension_of s m k) s)
          (λ w. declared (first (is_extension_of s m k) (every_extension (files_in s w)))) refl refl
          λ t a e w. rw (every-extension-file s t a e (files_in s w), declared-append)

pub ruleset extension_numbered_laws = (extension-numbered-is, sought_laws)

-- ---- declaration_of
module _ (s m : List ℕ) (c : Scope) (k : ℕ) (r : Option Declaration) (q : r ≡ declared (field_numbered k c)) where
  declaration-of-or : declared (declaration_of s c m k) ≡ first_of tells_declared r (declared (extension_numbered s m k))
  unfolding declaration_of
  declaration-of-or = rw q (declared-or-else (field_numbered k c) (extension_numbered s m k))

  pub declaration-of-field : (d : Declaration) → r ≡ Some d → Some d ≡ declared (declaration_of s c m k)
  declaration-of-field d g = rw (declaration-of-or, g)

  pub declaration-of-extension : r ≡ None → (x : Option Declaration) → x ≡ declared (extension_numbered s m k)
      → x ≡ declared (declaration_of s c m k)
  declaration-of-extension g x p = rw (declaration-of-or, g) p

pub ruleset declaration_of_laws = (declaration-of-field, declaration-of-extension)
