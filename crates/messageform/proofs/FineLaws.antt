-- What the tree of a fine enum, a fine message and of what a fine file or message holds is like: every leaf is what 01 allows, and nothing
-- is left out.
-- Assumes nothing.
use Rattle.std.specs.Prelude.{◌≡◌, Bool, true, List, ℕ, suc, ◌<◌, length, Option, Some}
use Rattle.basis.specs.Kit.{sym, ap, ◌∙◌}
use Rattle.ident.specs.Ident.{is_ident}
use Rattle.reply.specs.declared.Refusal.TheVariants.{BadSheet}
use Rattle.reply.proofs.VerdictLaws.{first-fine-front, first-fine-rest}
use Rattle.field.specs.Field.{field_at}
use Rattle.field.specs.Leaf.{any_bytes, leaf_at}
use Rattle.field.specs.Walk.{Walk, step, walk, tags_in}
use Rattle.form.specs.Each.{each}
use Rattle.field.proofs.WalkLaws.{walk_step}
use Rattle.sheet.specs.Table.{message_tag, enum_tag, name_tag}
use Rattle.sheet.specs.Tree.{values_in, items_in}
use Rattle.messageform.specs.Form.{judge_value, judge_enum, judge_item, judge_message, judge_items}
use Rattle.messageform.specs.Fine.{good_items, item_tags}
use Rattle.messageform.proofs.FineItems.{Inside, values-fine, enum-inside, FineItems, message-inside, items-fine}
use Rattle.field.specs.declared.Field.{Field}
use Rattle.field.specs.declared.Span.{Span}
use Rattle.reply.specs.Verdicts.{fine}

-- Every item at every depth of a fine level is good, and none is left out.
pub level-fine : (d : ℕ) (fields : Bool) (s : List ℕ) (a e : ℕ) → judge_items d fields s a e ≡ fine
    → FineItems s (walk s a e) (items_in d s (walk s a e))
unfolding judge_items items_in
level-fine d fields s a e p = items-fine d fields s (walk s a e) p

-- Every name, path, number, type and label in what a fine file or message holds, at every depth, is what 01 allows.
pub fine-good-items : (d : ℕ) (fields : Bool) (s : List ℕ) (a e : ℕ) → judge_items d fields s a e ≡ fine
    → good_items s (items_in d s (walk s a e)) ≡ true
fine-good-items d fields s a e p = (level-fine d fields s a e p).good

-- Every field of a fine file or message is an item of its own kind in the tree, in order.
pub fine-whole : (d : ℕ) (fields : Bool) (s : List ℕ) (a e : ℕ) → judge_items d fields s a e ≡ fine
    → item_tags (items_in d s (walk s a e)) ≡ tags_in (walk s a e)
fine-whole d fields s a e p = (level-fine d fields s a e p).whole

-- Every field of a fine enum, after its name, is a value in the tree.
pub fine-values : (s : List ℕ) (w : Walk) → each BadSheet (judge_value s) w ≡ fine → length (values_in s w) ≡ length (tags_in w)
fine-values s w p = (values-fine s w p).whole

-- A message that is fine has a name, and what it holds is fine, with one level less: so the above holds of it too.
pub fine-inside : (d : ℕ) (s : List ℕ) (a e : ℕ) → judge_message (suc d) s a e ≡ fine → (r : Option Span) → r ≡ leaf_at name_tag any_bytes s a e
    → Inside r is_ident s (λ m. judge_items d true s m e)
fine-inside d s a e p r q = rw q (message-inside d s a e p)

-- An enum that is fine has a name, and its values are fine: so the above holds of them too.
pub fine-enum-inside : (s : List ℕ) (a e : ℕ) → judge_enum s a e ≡ fine → (r : Option Span) → r ≡ leaf_at name_tag any_bytes s a e
    → Inside r is_ident s (λ m. each BadSheet (judge_value s) (walk s m e))
fine-enum-inside s a e p r q = rw q (enum-inside s a e p)

module _ (d : ℕ) (fields : Bool) (s : List ℕ) (i to : ℕ) (p : judge_items d fields s i to ≡ fine) (h : i < to)
    (r : Option Field) (q : r ≡ field_at s i to) (f : Field) (g : r ≡ Some f) where
  opened : each BadSheet (judge_item (judge_message d s) fields s) (step f.tag f.from f.to (walk s f.to to)) ≡ fine
  unfolding judge_items
  opened = ap (each BadSheet (judge_item (judge_message d s) fields s)) (sym (walk_step s i to h r q f g)) ∙ p

  -- Where a fine level has a field, the rest of the level is fine.
  pub fine-next : judge_items d fields s f.to to ≡ fine
  unfolding judge_items
  fine-next = first-fine-rest (judge_item (judge_message d s) fields s f.tag f.from f.to) (judge_items d fields s f.to to) opened

  -- Where that field is a message, it is fine: so on to every depth.
  pub fine-message : f.tag ≡ message_tag → judge_message d s f.from f.to ≡ fine
  unfolding judge_item judge_items
  fine-message y =
      rw y at (first-fine-front (judge_item (judge_message d s) fields s f.tag f.from f.to) (judge_items d fields s f.to to) opened)

  -- Where it is an enum, it is fine.
  pub fine-enum : f.tag ≡ enum_tag → judge_enum s f.from f.to ≡ fine
  unfolding judge_item judge_items
  fine-enum y =
      rw y at (first-fine-front (judge_item (judge_message d s) fields s f.tag f.from f.to) (judge_items d fields s f.to to) opened)
