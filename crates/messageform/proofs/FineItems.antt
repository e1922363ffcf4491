-- What a fine verdict says of the tree, from the leaves up: of a leaf and what stands after it, of values, and of items at every depth.
-- Assumes nothing.
use Rattle.std.specs.Prelude.{◌≡◌, refl, Bool, true, false, ◌&&◌, List, ◌∷◌, ℕ, zero, suc, length, None, Some, Option}
use Rattle.basis.specs.Kit.{sym, ap, ◌∙◌}
use mathlib.Core.Bool.{false≢true}
use native.Mathlib.Decide.{ℕ_discrete}
use Rattle.octets.specs.Octets.{part}
use Rattle.ident.specs.Ident.{is_ident}
use Rattle.path.specs.Path.{is_rel_path}
use Rattle.reply.specs.declared.Refusal.TheVariants.{BadSheet, BeyondLimit}
use Rattle.reply.specs.Verdicts.{judged, Verdict, fine}
use Rattle.reply.proofs.VerdictLaws.{refused-fine, first-fine-front, first-fine-rest, judged-fine}
use Rattle.field.specs.Leaf.{text, any_bytes, on_leaf, leaf_at, span}
use Rattle.field.specs.Walk.{Walk, done, cut, step, walk, tags_in}
use Rattle.form.specs.Each.{each}
use Rattle.field.proofs.LeafLaws.{leaf-tested, leaf-untested, on-leaf-some}
use Rattle.sheet.specs.declared.declaration.Value.{Value}
use Rattle.sheet.specs.Table.{message_tag, extension_tag, enum_tag, field_tag, value_tag, name_tag}
use Rattle.sheet.specs.Declaration.{extension_at, message_field_at, value_at}
use Rattle.sheet.specs.Tree.{Items, value_onto, value_in, values_in, enum_in, extension_in, field_in, item_in, items_with, message_in}
use Rattle.declform.specs.Declarations.{good_field, is_extension, is_field, is_value}
use Rattle.messageform.specs.Form.{bad_sheet, judge_value, judge_enum, judge_item, judge_message, judge_items}
use Rattle.messageform.specs.Fine.{good_values, good_items, item_tags}
use Rattle.messageform.proofs.MessageLaws.{value-other, item-other}
use Rattle.field.specs.declared.Span.{Span}
use Rattle.sheet.specs.declared.declaration.Declaration.{Declaration}

-- ---- a leaf r that is there and passed its test, and what stands after it, judged by f from where the leaf ends
pub record Inside (r : Option Span) (good : List ℕ → Bool) (s : List ℕ) (f : ℕ → Verdict) : Type 0 where
  pub from : ℕ
  pub to : ℕ
  pub named : r ≡ Some (span from to)
  pub tested : good (part s from to) ≡ true
  pub fine : f to ≡ fine

pub leaf-fine : (k : ℕ) (good : List ℕ → Bool) (s : List ℕ) (a e : ℕ) (f : ℕ → Verdict)
    → on_leaf bad_sheet (leaf_at k good s a e) (λ p. f p.to) ≡ fine → Inside (leaf_at k any_bytes s a e) good s f
leaf-fine k good s a e f p =
    on-leaf-some bad_sheet fine (leaf_at k good s a e) (λ p. f p.to) (Inside (leaf_at k any_bytes s a e) good s f)
    (λ q. refused-fine BadSheet (sym q))
    (λ u l q. record {
      from = u.from;
      to = u.to;
      named = leaf-untested k good s a e u l;
      tested = leaf-tested k good s a e u l;
      fine = sym q;
    })
    (sym p)

-- ---- the values of an enum: each is one, and its name is an identifier
pub record FineValues (s : List ℕ) (w : Walk) (vs : List Value) : Type 0 where
  pub good : good_values s vs ≡ true
  pub whole : length vs ≡ length (tags_in w)

value-more : (s : List ℕ) (t a e : ℕ) (w : Walk) (vs : List Value) → judge_value s t a e ≡ fine → FineValues s w vs
    → FineValues s (step t a e w) (value_in s t a e vs)
unfolding judge_value value_in is_value
value-more s t a e w vs p h = elim (ℕ_discrete t value_tag) [
  | yes y ↦ rw y (at_value (rw y at p))
  | no n ↦ absurd (refused-fine BadSheet (value-other s t a e n ∙ p))
]
  where
    go : (r : Option Value) → elim r [ Some v ↦ is_ident (text s v.name) | None ↦ false ] ≡ true
        → FineValues s (step value_tag a e w) (value_onto r vs)
    go (Some v) q = record { good = rw (q, h.good); whole = ap suc h.whole }
    go None q = absurd (false≢true q)

    at_value : judge_value s value_tag a e ≡ fine → FineValues s (step value_tag a e w) (value_in s value_tag a e vs)
    at_value q = go (value_at s a e) (judged-fine BadSheet (is_value s a e) q)

pub values-fine : (s : List ℕ) (w : Walk) → each BadSheet (judge_value s) w ≡ fine → FineValues s w (values_in s w)
values-fine s done p = record { good = refl; whole = refl }
values-fine s cut p = absurd (refused-fine BadSheet p)
values-fine s (step t a e w) p =
    let judge = judge_value s in
    let front = first-fine-front (judge t a e) (each BadSheet judge w) p in
    let rest = first-fine-rest (judge t a e) (each BadSheet judge w) p in
    value-more s t a e w (values_in s w) front (values-fine s w rest)

pub enum-inside : (s : List ℕ) (a e : ℕ) → judge_enum s a e ≡ fine
    → Inside (leaf_at name_tag any_bytes s a e) is_ident s (λ m. each BadSheet (judge_value s) (walk s m e))
unfolding judge_enum
enum-inside s a e p = leaf-fine name_tag is_ident s a e (λ m. each BadSheet (judge_value s) (walk s m e)) p

-- ---- one item: it is in front of what follows it, and nothing in it is bad
record FineItem (s : List ℕ) (t : ℕ) (rest i : Items) : Type 0 where
  good : good_items s rest ≡ true → good_items s i ≡ true
  whole : item_tags i ≡ t ∷ item_tags rest

module _ (s : List ℕ) (rest : Items) where
  extension-fine : (a e : ℕ) → is_extension s a e ≡ true → FineItem s extension_tag rest (extension_in (extension_at s a e) rest)
  unfolding is_extension
  extension-fine a e = go (extension_at s a e)
    where
      go : (r : Option Declaration) → elim r [ Some d ↦ is_rel_path (text s d.extendee) && good_field s d | None ↦ false ] ≡ true
          → FineItem s extension_tag rest (extension_in r rest)
      go (Some d) p = record { good = λ h. rw (p, h); whole = refl }
      go None p = absurd (false≢true p)

  field-fine : (a e : ℕ) → is_field s a e ≡ true → FineItem s field_tag rest (field_in (message_field_at s a e) rest)
  unfolding is_field
  field-fine a e = go (message_field_at s a e)
    where
      go : (r : Option Declaration) → elim r [ Some d ↦ good_field s d | None ↦ false ] ≡ true → FineItem s field_tag rest (field_in r rest)
      go (Some d) p = record { good = λ h. rw (p, h); whole = refl }
      go None p = absurd (false≢true p)

  enum-fine : (a e : ℕ) → judge_enum s a e ≡ fine → FineItem s enum_tag rest (enum_in s a e rest)
  enum-fine a e p =
      let x = enum-inside s a e p in
      let vs = values-fine s (walk s x.to e) x.fine in
      rw x.named record { good = λ h. rw (x.tested, vs.good, h); whole = refl }

-- a tag is one of the four, or another
by-tag : (t : ℕ) (P : ℕ → Type 0) → P message_tag → P extension_tag → P enum_tag → P field_tag
    → ((t ≡ message_tag → ⊥) → (t ≡ extension_tag → ⊥) → (t ≡ enum_tag → ⊥) → (t ≡ field_tag → ⊥) → P t) → P t
by-tag t P m x n f o = elim (ℕ_discrete t message_tag) [
  | yes y ↦ rw y m
  | no m' ↦ elim (ℕ_discrete t extension_tag) [
    | yes y ↦ rw y x
    | no x' ↦ elim (ℕ_discrete t enum_tag) [
      | yes y ↦ rw y n
      | no n' ↦ elim (ℕ_discrete t field_tag) [ yes y ↦ rw y f | no f' ↦ o m' x' n' f' ]
    ]
  ]
]

-- ---- items, where the messages among them are known to be fine
pub record FineItems (s : List ℕ) (w : Walk) (i : Items) : Type 0 where
  pub good : good_items s i ≡ true
  pub whole : item_tags i ≡ tags_in w

Messages : ℕ → List ℕ → Type 0
Messages d s = (a e : ℕ) (rest : Items) → judge_message d s a e ≡ fine → FineItem s message_tag rest (message_in d s a e rest)

module _ (d : ℕ) (fields : Bool) (s : List ℕ) (messages : Messages d s) where
  item-fine : (t a e : ℕ) (rest : Items) → judge_item (judge_message d s) fields s t a e ≡ fine
      → FineItem s t rest (item_in (message_in d s) s t a e rest)
  unfolding judge_item item_in Messages
  item-fine t a e rest =
      by-tag t
      (λ t. judge_item (judge_message d s) fields s t a e ≡ fine → FineItem s t rest (item_in (message_in d s) s t a e rest))
      (messages a e rest)
      (λ p. extension-fine s rest a e (judged-fine BadSheet (is_extension s a e) p))
      (enum-fine s rest a e)
      (in-message fields)
      (λ m x n f p. absurd (refused-fine BadSheet (item-other d fields s t a e m x n f ∙ p)))
    where
      in-message : (b : Bool) → elim b [ true ↦ judged BadSheet (is_field s a e) | false ↦ bad_sheet ] ≡ fine
          → FineItem s field_tag rest (field_in (message_field_at s a e) rest)
      in-message true p = field-fine s rest a e (judged-fine BadSheet (is_field s a e) p)
      in-message false p = absurd (refused-fine BadSheet p)

  items-with : (w : Walk) → each BadSheet (judge_item (judge_message d s) fields s) w ≡ fine → FineItems s w (items_with (message_in d s) s w)
  items-with done p = record { good = refl; whole = refl }
  items-with cut p = absurd (refused-fine BadSheet p)
  items-with (step t a e w) p =
      let judge = judge_item (judge_message d s) fields s in
      let front = item-fine t a e (items_with (message_in d s) s w) (first-fine-front (judge t a e) (each BadSheet judge w) p) in
      let rest = items-with w (first-fine-rest (judge t a e) (each BadSheet judge w) p) in
      record { good = front.good rest.good; whole = front.whole ∙ ap (t ∷◌) rest.whole }

-- ---- messages, with d levels left
pub message-inside : (d : ℕ) (s : List ℕ) (a e : ℕ) → judge_message (suc d) s a e ≡ fine
    → Inside (leaf_at name_tag any_bytes s a e) is_ident s (λ m. judge_items d true s m e)
unfolding judge_items
message-inside d s a e p = leaf-fine name_tag is_ident s a e (λ m. judge_items d true s m e) p

messages-fine : (d : ℕ) (s : List ℕ) → Messages d s
unfolding Messages judge_items
messages-fine zero s a e rest p = absurd (refused-fine BeyondLimit p)
messages-fine (suc d) s a e rest p =
    let x = message-inside d s a e p in
    let i = items-with d true s (messages-fine d s) (walk s x.to e) x.fine in
    rw x.named record { good = λ h. rw (x.tested, i.good, h); whole = refl }

pub items-fine : (d : ℕ) (fields : Bool) (s : List ℕ) (w : Walk) → each BadSheet (judge_item (judge_message d s) fields s) w ≡ fine
    → FineItems s w (items_with (message_in d s) s w)
items-fine d fields s w p = items-with d fields s (messages-fine d s) w p
