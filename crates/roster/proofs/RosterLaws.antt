-- The ways through the functions that look for the i-th of all messages, enums and extensions of a sheet.
--
--   in_item s q d t a e == what a field of a scope declares, q standing before its names, with d levels of messages left
--       in_file s t a e == what a field of a sheet declares
--
-- Assumes nothing.
use Rattle.std.specs.Prelude.{◌≡◌, refl, List, [], ◌∷◌, ◌++◌, ℕ, ◌+◌, ◌-◌, ◌≤◌, ◌<◌, length, take, None, Some, Option, Result, Ok, Err}
use Rattle.basis.specs.Kit.{sym, ap, ◌∙◌, sets}
use Rattle.basis.proofs.Kit.{arith, w64, Fits}
use Rattle.basis.proofs.Never.{never}
use mir.Facts.{Fits-le}
use mathlib.Core.List.{append_assoc, append-nil}
use Rattle.limits.specs.Figures.{most_messages}
use Rattle.octets.specs.Octets.{part}
use Rattle.octets.specs.inner.Laid.{Laid}
use Rattle.octets.proofs.Parts.{part-nil, part_length}
use Rattle.field.specs.declared.Span.{Span}
use Rattle.field.specs.Field.{header}
use Rattle.field.specs.Leaf.{span, text, any_bytes, leaf_at}
use Rattle.field.specs.Walk.{Walk, done, cut, step, walk}
use Rattle.field.proofs.LeafLaws.{leaf-bounds, leaf-ordered, leaf-within, on-leaf-some}
use Rattle.sheet.specs.declared.declaration.Declaration.{Declaration}
use Rattle.sheet.specs.Table.{file_tag, message_tag, extension_tag, enum_tag, package_tag, name_tag, extendee_tag}
use Rattle.sheet.specs.Declaration.{shape_at, declared_with, extension_at}
use Rattle.sheet.specs.Tree as tree
use Rattle.sheet.specs.Tree.{Items, File, file_with, file_in, none, enum_in, extension_in, item_in, message_in, items_in, files_in}
use Rattle.sheet.specs.Members.{Message}
use Rattle.sheet.proofs.TreeLaws.{item-message, item-enum, enum-unnamed, enum-named, message-beyond, message-unnamed, message-named}
use Rattle.sheet.proofs.TreeLaws.{file-other, file-unnamed, file-named, tree-files}
use Rattle.sheet.proofs.MemberLaws.{item-cases, file-cases}
use Rattle.sheet.proofs.PlaceLaws.{extension-name-ordered, extension-name-within}
use Rattle.scope.specs.Scope.{message_scope, file_scope}
use Rattle.scope.specs.inner.Steps.{item_at, file_at}
use Rattle.names.specs.Names as names
use Rattle.names.specs.Names.{Named, inside, file_front, declared_in, declared_by, every_declared}
use Rattle.roster.specs.declared.Bearer.TheVariants.{Message as MessageOf, Enum, Extension}
use Rattle.roster.specs.declared.Nth.{Nth}
use Rattle.roster.specs.inner.Nth.{borne, nowhere_in, Spelt, Finds}
use Rattle.roster.proofs.NthLaws.{dotted, Same, finds-same, same_refl, same-trans, same-append, scope-same, index_same}
use Rattle.roster.proofs.NthLaws.{finds-none, finds_past, finds-first, finds-behind, finds-suc}
use Rattle.roster.proofs.NthLaws.{laid-spelt, spelt-length, spelt-inside}
use Rattle.field.specs.declared.fields.Fields.{Fields}
use Rattle.field.specs.Fields.{Goes}
use Rattle.roster.proofs.Finding.{in_turn, FindingIn, finding-in-start, finding-in-end, finding-in-cut, finding-in-hit, finding-in-next}
use Rattle.roster.proofs.Finding.{finding_in_laws}
use Rattle.field.specs.declared.Field.{Field}
use Rattle.sheet.specs.declared.declaration.Shape.{Shape}

-- ---- put_name and put_inside
module _ (s : List ℕ) (n m at : ℕ) (o : n ≤ m) (h : m ≤ length s) (g : at < n) (before : List ℕ) (k : length s ≤ length before)
    (after : List ℕ) (r : ℕ) where
  pub name_spelt : Laid before at (part s n m) after r → Spelt before at (part s n m) after r
  name_spelt = laid-spelt before at (part s n m) after r (omega (arith, part_length s n m h))

  module _ (x : Spelt before at (part s n m) after r) where
    name-ends : r < m
    name-ends =
        let a : at ≤ length before = omega arith in
        omega (arith, spelt-length before at (part s n m) after r a x, part_length s n m h)

    pub inside-ends : r + 1 ≤ m
    inside-ends = omega (arith, name-ends)

    pub point-fits : Fits w64 m → Fits w64 (r + 1)
    point-fits = Fits-le (omega (arith, name-ends))

    pub inside-spelt : (end : List ℕ) → end ≡ sets after r dotted → Spelt before at (inside (part s n m)) end (r + 1)
    inside-spelt end p = spelt-inside before at (part s n m) after end r x (omega (arith, name-ends)) p

pub ruleset inside_laws = (point-fits, inside-spelt, inside-ends)

-- ---- where a name starts
pub leaf-ahead : (k : ℕ) (s : List ℕ) (a e : ℕ) (l : Option Span) → l ≡ leaf_at k any_bytes s a e → (p : Span) → l ≡ Some p
    → (at : ℕ) → at ≤ a → at < p.from
leaf-ahead k s a e l q p g at h = omega (arith, (leaf-bounds k any_bytes s a e l q p g).starts)

pub ruleset leaf_laws = (leaf-ahead, leaf-ordered, leaf-within)

module _ (s : List ℕ) (a e : ℕ) (d : Declaration) where
  shape-ahead : (l : Span) (x y : ℕ) → leaf_at name_tag any_bytes s a e ≡ Some l → (h : Option Shape) → Some d ≡ declared_with l (span x y) h
      → d.name.from ≡ a + header
  shape-ahead l x y p None q = never cc
  shape-ahead l x y p (Some h) q =
      let u : d ≡ record { name = l; extendee = span x y; shape = h } = cc in
      rw u (leaf-bounds name_tag any_bytes s a e (Some l) (sym p) l refl).starts

  none-declared : Some d ≡ None → ⊥
  none-declared p = never cc

  extension-starts : Some d ≡ extension_at s a e → d.name.from ≡ a + header
  unfolding extension_at
  extension-starts =
      on-leaf-some None (Some d) (leaf_at name_tag any_bytes s a e) _ (d.name.from ≡ a + header) none-declared λ w p.
      on-leaf-some None (Some d) (leaf_at extendee_tag any_bytes s w.to e) _ (d.name.from ≡ a + header) none-declared λ q _.
      shape-ahead w q.from q.to p (shape_at s q.to e)

  pub extension-ahead : (x : Option Declaration) → x ≡ extension_at s a e → x ≡ Some d → (at : ℕ) → at ≤ a → at < d.name.from
  extension-ahead x q g at h = omega (arith, extension-starts (sym g ∙ q))

-- ---- nth_enum
module _ (s : List ℕ) (a e i at : ℕ) (before : List ℕ) (l : Option Span) (q : l ≡ leaf_at name_tag any_bytes s a e) where
  pub enum-none : l ≡ None → Finds (declared_in s (take at before) nowhere_in (enum_in s a e none)) i at before before (Err i)
  enum-none g = finds-none _ i at before (rw (enum-unnamed s a e none l q g))

  module _ (p : Span) (g : l ≡ Some p) where
    pub enum-past : (i ≡ 0 → ⊥) → Finds (declared_in s (take at before) nowhere_in (enum_in s a e none)) i at before before (Err (i - 1))
    enum-past = finds_past _ i at before _ (ap (declared_in s (take at before) nowhere_in) (enum-named s a e none l q p g))

    pub enum_is : i ≡ 0 → (after : List ℕ) (r : ℕ) → Spelt before at (part s p.from p.to) after r
        → Finds (declared_in s (take at before) nowhere_in (enum_in s a e none)) i at before after (Ok (borne (Enum (span p.to e)) r))
    enum_is z after r =
        finds-first _ i at before _ [] (ap (declared_in s (take at before) nowhere_in) (enum-named s a e none l q p g)) z
        (part s p.from p.to) after r refl

pub ruleset enum_laws = (enum-none, enum-past, enum_is, leaf_laws)

-- ---- nth_extension
module _ (s : List ℕ) (a e i at : ℕ) (before : List ℕ) (x : Option Declaration) (q : x ≡ extension_at s a e) where
  pub extension-none : x ≡ None
      → Finds (declared_in s (take at before) nowhere_in (extension_in (extension_at s a e) none)) i at before before (Err i)
  extension-none g = finds-none _ i at before (rw (← q, g))

  module _ (d : Declaration) (g : x ≡ Some d) where
    pub extension-past : (i ≡ 0 → ⊥)
        → Finds (declared_in s (take at before) nowhere_in (extension_in (extension_at s a e) none)) i at before before (Err (i - 1))
    extension-past = finds_past _ i at before (record { name = take at before ++ text s d.name; what = names.extension d }) (rw (← q, g))

    pub extension-is : i ≡ 0 → (after : List ℕ) (r : ℕ) → Spelt before at (text s d.name) after r
        → Finds (declared_in s (take at before) nowhere_in (extension_in (extension_at s a e) none)) i at before after (Ok (borne (Extension d) r))
    extension-is z after r =
        finds-first _ i at before (record { name = take at before ++ text s d.name; what = names.extension d }) [] (rw (← q, g)) z
        (text s d.name) after r refl

pub ruleset extension_laws =
    (extension-none, extension-past, extension-is, extension-ahead, extension-name-ordered, extension-name-within)

-- ---- nth_in_item
module _ (s : List ℕ) (d t a e i at : ℕ) (before after : List ℕ) (r : Result Nth ℕ) where
  pub item-in-message : t ≡ message_tag
      → Finds (declared_in s (take at before) nowhere_in (message_in d s a e none)) i at before after r
      → Finds (declared_in s (take at before) nowhere_in (item_at d s t a e)) i at before after r
  item-in-message h f = rw (item-message (message_in d s) s t a e none h) f

  pub item-in-extension : t ≡ extension_tag
      → Finds (declared_in s (take at before) nowhere_in (extension_in (extension_at s a e) none)) i at before after r
      → Finds (declared_in s (take at before) nowhere_in (item_at d s t a e)) i at before after r
  unfolding item_in
  item-in-extension h f = rw h f

  pub item-in-enum : t ≡ enum_tag
      → Finds (declared_in s (take at before) nowhere_in (enum_in s a e none)) i at before after r
      → Finds (declared_in s (take at before) nowhere_in (item_at d s t a e)) i at before after r
  item-in-enum h f = rw (item-enum (message_in d s) s t a e none h) f

pub item-in-none : (s : List ℕ) (d t a e i at : ℕ) (room : List ℕ)
    → (t ≡ message_tag → ⊥) → (t ≡ extension_tag → ⊥) → (t ≡ enum_tag → ⊥)
    → Finds (declared_in s (take at room) nowhere_in (item_at d s t a e)) i at room room (Err i)
item-in-none s d t a e i at room x y z =
    finds-none _ i at room
    (item-cases (λ f. declared_in s (take at room) nowhere_in (f none) ≡ []) s a e refl d t
    (λ h. absurd (x h)) (λ h. absurd (y h)) (λ h. absurd (z h)) (λ _ _ _. refl))

pub ruleset item_laws = (item-in-message, item-in-extension, item-in-enum, item-in-none)

-- ---- nth_in_message
module _ (s : List ℕ) (d a e i at : ℕ) (before : List ℕ) where
  pub message-beyond-none : d ≡ 0
      → Finds (declared_in s (take at before) nowhere_in (message_in d s a e none)) i at before before (Err i)
  message-beyond-none z = finds-none _ i at before (rw (message-beyond d s a e none z))

  module _ (l : Option Span) (q : l ≡ leaf_at name_tag any_bytes s a e) where
    pub message-none : l ≡ None
        → Finds (declared_in s (take at before) nowhere_in (message_in d s a e none)) i at before before (Err i)
    message-none g = finds-none _ i at before (rw (message-unnamed d s a e none l q g))

    module _ (z : d ≡ 0 → ⊥) (p : Span) (g : l ≡ Some p) where
      message-opens : declared_in s (take at before) nowhere_in (message_in d s a e none)
          ≡ declared_in s (take at before) nowhere_in (tree.message p (span p.to e) (items_in (d - 1) s (walk s p.to e)) none)
      message-opens = ap (declared_in s (take at before) nowhere_in) (message-named d s a e none z l q p g)

      pub message-is : i ≡ 0 → (after : List ℕ) (r : ℕ) → Spelt before at (part s p.from p.to) after r
          → Finds (declared_in s (take at before) nowhere_in (message_in d s a e none)) i at before after (Ok (borne (MessageOf (span p.to e)) r))
      message-is y after r = finds-first _ i at before _ _ message-opens y (part s p.from p.to) after r refl

      pub message-in : (i ≡ 0 → ⊥) → (mid : List ℕ) (next : ℕ) → Spelt before at (inside (part s p.from p.to)) mid next
          → (after : List ℕ) (r : Result Nth ℕ)
          → Finds (declared_in s (take next mid) nowhere_in (items_in (d - 1) s (walk s p.to e))) (i - 1) next mid after r
          → Finds (declared_in s (take at before) nowhere_in (message_in d s a e none)) i at before after r
      message-in y mid next k after r f =
          let items = items_in (d - 1) s (walk s p.to e) in
          let own : Message = record { name = p; body = span p.to e; inside = items } in
          let u : take next mid ≡ inside (take at before ++ part s p.from p.to) =
          k.front ∙ sym (append_assoc (take at before) (part s p.from p.to) dotted) in
          let here : Finds (declared_in s (inside (take at before ++ part s p.from p.to)) nowhere_in items) (i - 1) at before after r =
          rw u at (finds-behind _ (i - 1) at next before (inside (part s p.from p.to)) mid after r k f) in
          let same = scope-same s (inside (take at before ++ part s p.from p.to)) nowhere_in (message_scope nowhere_in own) items in
          rw message-opens (finds-suc _ _ i at before after r y (rw append-nil (finds-same same here)))

pub ruleset message_laws = (message-beyond-none, message-none, message-is, message-in)

-- ---- nth_in_items
abbrev pub in_item : (s front : List ℕ) (left tag from to : ℕ) → List Named
in_item s q d t a e = declared_in s q nowhere_in (item_at d s t a e)

-- what a field declares comes before what the rest does
message-splits : (s q : List ℕ) (n b : Span) (i rest : Items) → declared_in s q nowhere_in (tree.message n b i rest)
    ≡ declared_in s q nowhere_in (tree.message n b i none) ++ declared_in s q nowhere_in rest
message-splits s q n b i rest =
    let own : Message = record { name = n; body = b; inside = i } in
    let first : Named = record { name = q ++ text s n; what = names.message (message_scope nowhere_in own) } in
    ap (λ (l : List Named). first ∷ l)
    (sym (append_assoc (declared_in s (inside (q ++ text s n)) (message_scope nowhere_in own) i) [] (declared_in s q nowhere_in rest)))

item-splits : (s q : List ℕ) (d t a e : ℕ) (rest : Items)
    → declared_in s q nowhere_in (item_in (message_in d s) s t a e rest) ≡ in_item s q d t a e ++ declared_in s q nowhere_in rest
item-splits s q d t a e rest =
    item-cases (λ f. declared_in s q nowhere_in (f rest) ≡ declared_in s q nowhere_in (f none) ++ declared_in s q nowhere_in rest) s a e refl d t
    (λ _ _ n _. message-splits s q n (span n.to e) (items_in (d - 1) s (walk s n.to e)) rest)
    (λ _ _ _. refl) (λ _ _ _. refl) (λ _ _ _. refl)

items-gathered : (s q : List ℕ) (d : ℕ) (w : Walk) → declared_in s q nowhere_in (items_in d s w) ≡ in_turn (in_item s q d) w
unfolding items_in
items-gathered s q d done = refl
items-gathered s q d cut = refl
items-gathered s q d (step t a e w) =
    item-splits s q d t a e (items_in d s w) ∙ ap (λ (l : List Named). in_item s q d t a e ++ l) (items-gathered s q d w)

module _ (s : List ℕ) (d from to i at : ℕ) (before : List ℕ) where
  abbrev items_found : (after : List ℕ) → Result Nth ℕ → Type 0
  items_found after r = Finds (declared_in s (take at before) nowhere_in (items_in d s (walk s from to))) i at before after r

  pub items-start : (it : Fields) → it.bytes.now ≡ s → it.at ≡ from → it.end ≡ to → from ≤ to → to ≤ length s → at ≤ from
      → length s ≤ length before → FindingIn (in_item s (take at before) d) s from to i at before before i it
  items-start = finding-in-start (in_item s (take at before) d) s from to i at before

  module _ (room : List ℕ) (k : ℕ) (it : Fields) (x : FindingIn (in_item s (take at before) d) s from to i at before room k it) where
    items-is : (after : List ℕ) (r : Result Nth ℕ) → Finds (in_turn (in_item s (take at before) d) (walk s from to)) i at before after r
        → items_found after r
    items-is after r f = rw (items-gathered s (take at before) d (walk s from to)) f

    pub items-end : it.end ≤ it.at → items_found room (Err k)
    items-end h = items-is room (Err k) (finding-in-end _ s from to i at before room k it x h)

    module _ (it' : Fields) (r : Option Field) (w : Goes it it' r) where
      pub items-cut : r ≡ None → items_found room (Err k)
      items-cut g = items-is room (Err k) (finding-in-cut _ s from to i at before room k it x it' r w g)

      module _ (f : Field) (g : r ≡ Some f) (after : List ℕ) (y : Result Nth ℕ)
          (z : Finds (declared_in s (take at room) nowhere_in (item_at d s f.tag f.from f.to)) k at room after y) where
        pub items-hit : (n : Nth) → y ≡ Ok n → items_found after (Ok n)
        items-hit n v =
            items-is after (Ok n) (finding-in-hit _ s from to i at before room k it x it' r w f g after y (rw x.left.kept at z) n v)

        pub items-next : (j : ℕ) → y ≡ Err j → FindingIn (in_item s (take at before) d) s from to i at before after j it'
        items-next = finding-in-next _ s from to i at before room k it x it' r w f g after y (rw x.left.kept at z)

pub ruleset items_laws = (items-start, items-end, items-cut, items-hit, items-next, finding_in_laws)

-- ---- nth_in_file
front-dotted : (t : List ℕ) → (length t ≡ 0 → ⊥) → file_front t ≡ inside t
front-dotted [] h = absurd (h refl)
front-dotted (c ∷ cs) h = refl

module _ (s : List ℕ) (t a e i : ℕ) (before : List ℕ) where
  pub file-other-none : (t ≡ file_tag → ⊥) → Finds (declared_by s 0 (file_at s t a e)) i 0 before before (Err i)
  file-other-none h = finds-none _ i 0 before (rw (file-other s t a e [] h))

  module _ (h : t ≡ file_tag) (l : Option Span) (q : l ≡ leaf_at package_tag any_bytes s a e) where
    pub file-none : l ≡ None → Finds (declared_by s 0 (file_at s t a e)) i 0 before before (Err i)
    file-none g = finds-none _ i 0 before (rw (file-unnamed s t a e [] h l q g))

    module _ (it : Span) (g : l ≡ Some it) (after : List ℕ) (r : Result Nth ℕ) where
      opened : (f : List ℕ) → f ≡ file_front (part s it.from it.to)
          → Finds (declared_in s f nowhere_in (items_in most_messages s (walk s it.to e))) i 0 before after r
          → Finds (declared_by s 0 (file_at s t a e)) i 0 before after r
      opened f p k =
          let items = items_in most_messages s (walk s it.to e) in
          let file = file_with it (span it.to e) items in
          let same = scope-same s (file_front (part s it.from it.to)) nowhere_in (file_scope 0 file) items in
          rw (file-named s t a e [] h l q it g, append-nil) (finds-same same (rw p at k))

      pub file-bare : it.from ≡ it.to → Finds (declared_in s (take 0 before) nowhere_in (items_in most_messages s (walk s it.to e))) i 0 before after r
          → Finds (declared_by s 0 (file_at s t a e)) i 0 before after r
      file-bare z = opened [] (sym (ap file_front (part-nil s it.from it.to (omega arith))))

      pub file-in : (it.from ≡ it.to → ⊥) → e ≤ length s → (mid : List ℕ) (next : ℕ) → Spelt before 0 (inside (part s it.from it.to)) mid next
          → Finds (declared_in s (take next mid) nowhere_in (items_in most_messages s (walk s it.to e))) i next mid after r
          → Finds (declared_by s 0 (file_at s t a e)) i 0 before after r
      file-in z y mid next k f =
          let o : it.from ≤ it.to = leaf-ordered package_tag any_bytes s a e l q it g in
          let b : it.to ≤ length s = leaf-within package_tag any_bytes s a e l q it g y in
          let u : file_front (part s it.from it.to) ≡ inside (part s it.from it.to) =
          front-dotted (part s it.from it.to) λ w. z (omega (arith, part_length s it.from it.to b)) in
          opened (take next mid) (k.front ∙ sym u) (finds-behind _ i 0 next before (inside (part s it.from it.to)) mid after r k f)

pub ruleset file_laws =
    (file-other-none, file-none, file-bare, file-in)

-- ---- nth_declared
abbrev pub in_file : (s : List ℕ) (tag from to : ℕ) → List Named
in_file s t a e = declared_by s 0 (file_at s t a e)

file-splits : (s : List ℕ) (t a e : ℕ) (rest : List File)
    → Same (in_file s t a e ++ declared_by s 0 rest) (declared_by s 0 (file_in s t a e rest))
file-splits s t a e rest =
    file-cases (λ f. Same (declared_by s 0 (f []) ++ declared_by s 0 rest) (declared_by s 0 (f rest))) s t a e (same_refl _)
    λ n _.
    let file = file_with n (span n.to e) (items_in most_messages s (walk s n.to e)) in
    rw append-nil (same-append (same_refl (declared_in s (file_front (text s n)) (file_scope 0 file) file.items)) (index_same s 0 1 rest))

files-gathered : (s : List ℕ) (w : Walk) → Same (in_turn (in_file s) w) (declared_by s 0 (files_in s w))
files-gathered s done = same_refl []
files-gathered s cut = same_refl []
files-gathered s (step t a e w) =
    same-trans (same-append (same_refl (in_file s t a e)) (files-gathered s w)) (file-splits s t a e (files_in s w))

module _ (s : List ℕ) (to i : ℕ) (before : List ℕ) (c : to ≡ length s) where
  declared-is : (after : List ℕ) (r : Result Nth ℕ) → Finds (in_turn (in_file s) (walk s 0 to)) i 0 before after r
      → Finds (every_declared s) i 0 before after r
  unfolding every_declared
  declared-is after r f = rw (tree-files s, ← c) (finds-same (files-gathered s (walk s 0 to)) f)

  pub declared-start : (it : Fields) → it.bytes.now ≡ s → it.at ≡ 0 → it.end ≡ to → length s ≤ length before
      → FindingIn (in_file s) s 0 to i 0 before before i it
  declared-start it b a e h = finding-in-start (in_file s) s 0 to i 0 before it b a e (omega arith) (omega arith) (omega arith) h

  module _ (room : List ℕ) (k : ℕ) (it : Fields) (x : FindingIn (in_file s) s 0 to i 0 before room k it) where
    pub declared-end : it.end ≤ it.at → Finds (every_declared s) i 0 before room (Err k)
    declared-end h = declared-is room (Err k) (finding-in-end _ s 0 to i 0 before room k it x h)

    module _ (it' : Fields) (r : Option Field) (w : Goes it it' r) where
      pub declared-cut : r ≡ None → Finds (every_declared s) i 0 before room (Err k)
      declared-cut g = declared-is room (Err k) (finding-in-cut _ s 0 to i 0 before room k it x it' r w g)

      module _ (f : Field) (g : r ≡ Some f) (after : List ℕ) (y : Result Nth ℕ)
          (z : Finds (declared_by s 0 (file_at s f.tag f.from f.to)) k 0 room after y) where
        pub declared-hit : (n : Nth) → y ≡ Ok n → Finds (every_declared s) i 0 before after (Ok n)
        declared-hit n v = declared-is after (Ok n) (finding-in-hit _ s 0 to i 0 before room k it x it' r w f g after y z n v)

        pub declared-next : (j : ℕ) → y ≡ Err j → FindingIn (in_file s) s 0 to i 0 before after j it'
        declared-next = finding-in-next _ s 0 to i 0 before room k it x it' r w f g after y z

pub ruleset declared_laws = (declared-start, declared-end, declared-cut, declared-hit, declared-next, finding_in_laws)
