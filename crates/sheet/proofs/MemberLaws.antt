-- What one field adds to the members of each kind: a field of the kind's own tag adds what it declares, any other nothing. They are for
-- whoever walks over a scope or over the sheet and looks for one kind.
--
--   listed r == the declaration r, where there is one, as a list
--
-- Assumes nothing.
use Rattle.std.specs.Prelude.{◌≡◌, refl, Bool, true, false, List, [], ◌∷◌, ◌++◌, ℕ, zero, suc, ◌-◌, eqb, None, Some, Option}
use Rattle.basis.specs.Kit.{sym, ap, ◌∙◌}
use Rattle.basis.proofs.Kit.{arith}
use mathlib.Core.List.{append_assoc}
use borrow.Author.Tests.{eqb-true, eqb-false}
use Rattle.basis.proofs.Never.{never}
use Rattle.limits.specs.Figures.{most_messages}
use Rattle.field.specs.Leaf.{span, any_bytes, on_leaf, leaf_at}
use Rattle.field.specs.Walk.{walk}
use Rattle.sheet.specs.declared.declaration.Declaration.{Declaration}
use Rattle.sheet.specs.Table.{file_tag, message_tag, extension_tag, enum_tag, field_tag, package_tag, name_tag}
use Rattle.sheet.specs.Declaration.{extension_at, message_field_at}
use Rattle.sheet.specs.Tree.{Items, none, message, extension, enumeration, field, values_in, enum_in, extension_in, field_in}
use Rattle.sheet.specs.Tree.{item_in, message_in, items_with, items_in, File, file_with, file_in}
use Rattle.sheet.specs.Members.{messages_of, extensions_of, enums_of, fields_of, every_extension_of, every_extension}
use Rattle.sheet.proofs.TreeLaws.{item-message, item-extension, item-enum, item-field, enum-named, message-named}
use Rattle.field.specs.declared.Span.{Span}

-- ---- the cases of one field, for whatever is said of what it puts in front of the rest
module _ (Q : (Items → Items) → Type 0) (s : List ℕ) (a e : ℕ) (nothing : Q (λ r. r)) where
  message-cases : (d : ℕ)
      → ((d ≡ 0 → ⊥) → (q : Span) → leaf_at name_tag any_bytes s a e ≡ Some q
      → Q (message q (span q.to e) (items_in (d - 1) s (walk s q.to e))))
      → Q (message_in d s a e)
  unfolding items_in
  message-cases zero k = nothing
  message-cases (suc d) k = go (leaf_at name_tag any_bytes s a e) refl
    where
      positive : suc d ≡ 0 → ⊥
      positive h = omega arith

      go : (l : Option Span) → leaf_at name_tag any_bytes s a e ≡ l
          → Q (λ r. on_leaf r l λ q. message q (span q.to e) (items_with (message_in d s) s (walk s q.to e)) r)
      go None p = nothing
      go (Some place) p = let z : suc d - 1 ≡ d = omega arith in rw z at (k positive place p)

  enum-cases : ((q : Span) → leaf_at name_tag any_bytes s a e ≡ Some q → Q (enumeration q (span q.to e) (values_in s (walk s q.to e))))
      → Q (enum_in s a e)
  enum-cases k = go (leaf_at name_tag any_bytes s a e) refl
    where
      go : (l : Option Span) → leaf_at name_tag any_bytes s a e ≡ l
          → Q (λ r. on_leaf r l λ q. enumeration q (span q.to e) (values_in s (walk s q.to e)) r)
      go None p = nothing
      go (Some it) p = k it p

  extension-cases : (x : Option Declaration) → ((y : Declaration) → x ≡ Some y → Q (extension y)) → Q (extension_in x)
  extension-cases None k = nothing
  extension-cases (Some x) k = k x refl

  field-cases : (x : Option Declaration) → ((y : Declaration) → x ≡ Some y → Q (field y)) → Q (field_in x)
  field-cases None k = nothing
  field-cases (Some x) k = k x refl

  pub item-cases : (d t : ℕ)
      → (t ≡ message_tag → (d ≡ 0 → ⊥) → (q : Span) → leaf_at name_tag any_bytes s a e ≡ Some q
      → Q (message q (span q.to e) (items_in (d - 1) s (walk s q.to e))))
      → (t ≡ extension_tag → (x : Declaration) → extension_at s a e ≡ Some x → Q (extension x))
      → (t ≡ enum_tag → (q : Span) → leaf_at name_tag any_bytes s a e ≡ Some q
      → Q (enumeration q (span q.to e) (values_in s (walk s q.to e))))
      → (t ≡ field_tag → (x : Declaration) → message_field_at s a e ≡ Some x → Q (field x))
      → Q (item_in (message_in d s) s t a e)
  unfolding item_in
  item-cases d t on_message on_extension on_enum on_field =
      go (eqb t message_tag) refl (eqb t extension_tag) refl (eqb t enum_tag) refl (eqb t field_tag) refl
    where
      go : (b : Bool) → eqb t message_tag ≡ b → (b' : Bool) → eqb t extension_tag ≡ b' → (b'' : Bool) → eqb t enum_tag ≡ b''
          → (b''' : Bool) → eqb t field_tag ≡ b'''
          → Q (λ r. elim b [
            | true ↦ message_in d s a e r
            | false ↦ elim b' [
              | true ↦ extension_in (extension_at s a e) r
              | false ↦ elim b'' [
                | true ↦ enum_in s a e r
                | false ↦ elim b''' [ true ↦ field_in (message_field_at s a e) r | false ↦ r ]
              ]
            ]
          ])
      go true p b' p' b'' p'' b''' p''' = message-cases d (on_message (eqb-true t message_tag p))
      go false p true p' b'' p'' b''' p''' = extension-cases (extension_at s a e) (on_extension (eqb-true t extension_tag p'))
      go false p false p' true p'' b''' p''' = enum-cases (on_enum (eqb-true t enum_tag p''))
      go false p false p' false p'' true p''' = field-cases (message_field_at s a e) (on_field (eqb-true t field_tag p'''))
      go false p false p' false p'' false p''' = nothing

-- ---- messages
module _ (d : ℕ) (s : List ℕ) (t a e : ℕ) (rest : Items) where
  no-message : (t ≡ message_tag → (d ≡ 0 → ⊥) → (q : Span) → leaf_at name_tag any_bytes s a e ≡ Some q → ⊥)
      → messages_of (item_in (message_in d s) s t a e rest) ≡ messages_of rest
  no-message k =
      item-cases (λ f. messages_of (f rest) ≡ messages_of rest) s a e refl d t
      (λ h z q p. absurd (k h z q p)) (λ _ x _. refl) (λ _ q _. refl) (λ _ x _. refl)

  pub messages-other : (t ≡ message_tag → ⊥) → messages_of (item_in (message_in d s) s t a e rest) ≡ messages_of rest
  messages-other o = no-message λ h _ _ _. o h

  pub messages-beyond : d ≡ 0 → messages_of (item_in (message_in d s) s t a e rest) ≡ messages_of rest
  messages-beyond h = no-message λ _ z _ _. z h

  module _ (r : Option Span) (q : r ≡ leaf_at name_tag any_bytes s a e) where
    pub messages-unnamed : r ≡ None → messages_of (item_in (message_in d s) s t a e rest) ≡ messages_of rest
    messages-unnamed g = no-message λ _ _ n p. never cc

    pub messages-named : t ≡ message_tag → (d ≡ 0 → ⊥) → (p : Span) → r ≡ Some p
        → messages_of (item_in (message_in d s) s t a e rest)
        ≡ record { name = p; body = span p.to e; inside = items_in (d - 1) s (walk s p.to e) } ∷ messages_of rest
    messages-named h z p g =
        ap messages_of (item-message (message_in d s) s t a e rest h ∙ message-named d s a e rest z r q p g)

-- ---- enums
module _ (d : ℕ) (s : List ℕ) (t a e : ℕ) (rest : Items) where
  no-enum : (t ≡ enum_tag → (q : Span) → leaf_at name_tag any_bytes s a e ≡ Some q → ⊥)
      → enums_of (item_in (message_in d s) s t a e rest) ≡ enums_of rest
  no-enum k =
      item-cases (λ f. enums_of (f rest) ≡ enums_of rest) s a e refl d t
      (λ _ _ q _. refl) (λ _ x _. refl) (λ h q p. absurd (k h q p)) (λ _ x _. refl)

  pub enums-other : (t ≡ enum_tag → ⊥) → enums_of (item_in (message_in d s) s t a e rest) ≡ enums_of rest
  enums-other o = no-enum λ h _ _. o h

  module _ (r : Option Span) (q : r ≡ leaf_at name_tag any_bytes s a e) where
    pub enums-unnamed : r ≡ None → enums_of (item_in (message_in d s) s t a e rest) ≡ enums_of rest
    enums-unnamed g = no-enum λ _ n p. never cc

    pub enums-named : t ≡ enum_tag → (p : Span) → r ≡ Some p
        → enums_of (item_in (message_in d s) s t a e rest)
        ≡ record { name = p; body = span p.to e; values = values_in s (walk s p.to e) } ∷ enums_of rest
    enums-named h p g = ap enums_of (item-enum (message_in d s) s t a e rest h ∙ enum-named s a e rest r q p g)

-- ---- extensions and fields: what a field of their tag declares is put in front of the rest
abbrev pub listed : Option Declaration → List Declaration
listed None = []
listed (Some x) = x ∷ []

tagged : (t k : ℕ) (r : Option Declaration) (ds rest : List Declaration)
    → ((t ≡ k → (x : Declaration) → r ≡ Some x → ⊥) → ds ≡ rest)
    → (t ≡ k → (x : Declaration) → r ≡ Some x → ds ≡ x ∷ rest)
    → ds ≡ listed (elim (eqb t k) [ true ↦ r | false ↦ None ]) ++ rest
tagged t k r ds rest other own = go (eqb t k) refl r refl
  where
    go : (b : Bool) → eqb t k ≡ b → (u : Option Declaration) → r ≡ u → ds ≡ listed (elim b [ true ↦ u | false ↦ None ]) ++ rest
    go false p u q = other λ h _ _. eqb-false t k p h
    go true p None q = other λ _ x w. never cc
    go true p (Some x) q = own (eqb-true t k p) x q

module _ (d : ℕ) (s : List ℕ) (t a e : ℕ) (rest : Items) where
  pub extensions-item : extensions_of (item_in (message_in d s) s t a e rest)
      ≡ listed (elim (eqb t extension_tag) [ true ↦ extension_at s a e | false ↦ None ]) ++ extensions_of rest
  extensions-item =
      tagged t extension_tag (extension_at s a e) _ (extensions_of rest)
      (λ other. item-cases (λ f. extensions_of (f rest) ≡ extensions_of rest) s a e refl d t
      (λ _ _ n _. refl) (λ h x p. absurd (other h x p)) (λ _ n _. refl) (λ _ x _. refl))
      λ h x q. ap extensions_of (item-extension (message_in d s) s t a e rest h (extension_at s a e) refl x q)

  pub fields-item : fields_of (item_in (message_in d s) s t a e rest)
      ≡ listed (elim (eqb t field_tag) [ true ↦ message_field_at s a e | false ↦ None ]) ++ fields_of rest
  fields-item =
      tagged t field_tag (message_field_at s a e) _ (fields_of rest)
      (λ other. item-cases (λ f. fields_of (f rest) ≡ fields_of rest) s a e refl d t
      (λ _ _ n _. refl) (λ _ x _. refl) (λ _ n _. refl) (λ h x p. absurd (other h x p)))
      λ h x q. ap fields_of (item-field (message_in d s) s t a e rest h (message_field_at s a e) refl x q)

-- ---- the extensions at every depth: those of a field come before those of the rest
module _ (d : ℕ) (s : List ℕ) (t a e : ℕ) (rest : Items) where
  pub every-extension-item : every_extension_of (item_in (message_in d s) s t a e rest)
      ≡ every_extension_of (item_in (message_in d s) s t a e none) ++ every_extension_of rest
  every-extension-item =
      item-cases (λ f. every_extension_of (f rest) ≡ every_extension_of (f none) ++ every_extension_of rest) s a e refl d t
      (λ _ _ n _. sym (append_assoc (every_extension_of (items_in (d - 1) s (walk s n.to e))) [] (every_extension_of rest)))
      (λ _ x _. refl) (λ _ n _. refl) (λ _ x _. refl)

  -- a field that is no message has its own alone
  pub every-extension-flat : (t ≡ message_tag → ⊥) → every_extension_of (item_in (message_in d s) s t a e rest)
      ≡ listed (elim (eqb t extension_tag) [ true ↦ extension_at s a e | false ↦ None ]) ++ every_extension_of rest
  every-extension-flat o =
      tagged t extension_tag (extension_at s a e) _ (every_extension_of rest)
      (λ other. item-cases (λ f. every_extension_of (f rest) ≡ every_extension_of rest) s a e refl d t
      (λ h. absurd (o h)) (λ h x p. absurd (other h x p)) (λ _ n _. refl) (λ _ x _. refl))
      λ h x q. ap every_extension_of (item-extension (message_in d s) s t a e rest h (extension_at s a e) refl x q)

-- the cases of one field of a sheet
pub file-cases : (Q : (List File → List File) → Type 0) (s : List ℕ) (t a e : ℕ) → Q (λ r. r)
    → ((q : Span) → leaf_at package_tag any_bytes s a e ≡ Some q
    → Q (λ r. file_with q (span q.to e) (items_in most_messages s (walk s q.to e)) ∷ r))
    → Q (file_in s t a e)
unfolding file_in
file-cases Q s t a e nothing one = go (eqb t file_tag) (leaf_at package_tag any_bytes s a e) refl
  where
    go : (b : Bool) (l : Option Span) → leaf_at package_tag any_bytes s a e ≡ l
        → Q (λ r. elim b [
          | true ↦ on_leaf r l λ q. file_with q (span q.to e) (items_in most_messages s (walk s q.to e)) ∷ r
          | false ↦ r
        ])
    go true None p = nothing
    go true (Some it1) p = one it1 p
    go false l p = nothing

pub every-extension-file : (s : List ℕ) (t a e : ℕ) (rest : List File)
    → every_extension (file_in s t a e rest) ≡ every_extension (file_in s t a e []) ++ every_extension rest
every-extension-file s t a e rest =
    file-cases (λ f. every_extension (f rest) ≡ every_extension (f []) ++ every_extension rest) s t a e refl
    λ n _. sym (append_assoc (every_extension_of (items_in most_messages s (walk s n.to e))) [] (every_extension rest))
