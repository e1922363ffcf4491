-- What is left to read after each step of the machine, whatever looks up: behind a level that has ended, behind a record, inside a message,
-- at a fault, and at a message that lies too deep.
-- Assumes nothing.
use Rattle.std.specs.Prelude.{◌≡◌, refl, List, [], ◌∷◌, ℕ, zero, suc, ◌+◌, ◌-◌, ◌*◌, ◌≤◌, ◌<◌, length, take, drop}
use Rattle.basis.specs.Kit.{sym, ap, ◌∙◌, sets}
use Rattle.basis.proofs.Kit.{arith, ne_eqb}
use mathlib.Core.Path.{ap₂}
use Rattle.limits.specs.Figures.{most_levels}
use Rattle.octets.specs.Octets.{part}
use Rattle.octets.proofs.Parts.{part-nil, part_length}
use Rattle.reply.specs.declared.Refusal.{Refusal}
use Rattle.reply.specs.declared.Refusal.TheVariants.{BeyondLimit}
use Rattle.reply.specs.Outcome.{give, refuse, push}
use Rattle.reply.proofs.Outcomes.{push-nil}
use Rattle.field.specs.declared.Span.{Span}
use Rattle.field.specs.Leaf.{span, text}
use Rattle.scope.specs.declared.lookup.LookupScope.{LookupScope}
use Rattle.lookups.specs.Lookups.{Lookups, Message}
use Rattle.entries.specs.declared.Entry.{Entry}
use Rattle.entries.specs.Tree.{row}
use Rattle.entries.specs.Item.{some, into, wrong, item}
use Rattle.entries.specs.Reading.{Listed, refused, follow, records_from, reading}
use Rattle.entries.specs.inner.Fronts.{message}
use Rattle.entries.proofs.ReadingLaws.{records-nil, records-step}
use Rattle.levels.specs.declared.Level.{Level}
use Rattle.levels.specs.inner.Stack.{level_words, stack_words, words_of, level_at, message_in}
use Rattle.levels.specs.inner.Left.{flat, both, level_rows, left, OpenAt, Settles, none_open, stays_open, closes}
use Rattle.entries.proofs.PartLaws.{part-behind, part-inside, part-all}
use Rattle.levels.proofs.FlatLaws.{both-push, both-both, both-last, flat-leaf, flat-held}
use Rattle.levels.proofs.StackLaws.{level-read, level-below}
use Rattle.levels.proofs.OpenLaws.{open-ahead, open-closed}

-- ---- the message of a level
pub message-outer : (s type : List ℕ) (v : Level) → message_in s type 0 v ≡ message type v.place
unfolding message_in
message-outer s type v = refl

pub message-other : (s type : List ℕ) (l : ℕ) (v : Level) → (l ≡ 0 → ⊥) → message_in s type l v ≡ message (text s v.name) v.place
unfolding message_in
message-other s type l v h = rw (ne_eqb l 0 h)

-- ---- the inside of a message at the level l
module _ (L : Lookups) (s : List ℕ) (l : ℕ) (m : Message) (at : ℕ) (bs : List ℕ) where
  too-deep : most_levels ≤ suc l → reading L s (most_levels - suc l) m at bs ≡ refused BeyondLimit
  unfolding reading
  too-deep h = let z : most_levels - suc l ≡ 0 = omega arith in rw z

  one_deeper : suc l < most_levels
      → reading L s (most_levels - suc l) m at bs ≡ records_from L s (reading L s (most_levels - suc (suc l))) m at 0 bs
  unfolding reading
  one_deeper h = let z : most_levels - suc l ≡ suc (most_levels - suc (suc l)) = omega arith in rw z

-- ---- a level that was written, and those below it
module _ (L : Lookups) (s type bs : List ℕ) where
  left_below : (st : List ℕ) (k : ℕ) (ws : List ℕ) (d at : ℕ) → d ≤ k
      → left L s type bs (sets st (k * level_words) ws) d at ≡ left L s type bs st d at
  unfolding left
  left_below st k ws zero at h = refl
  left_below st k ws (suc l) at h =
      rw (level-below st k ws l (omega arith), left_below st k ws l (level_at st l).end (omega arith))

  left-pushed : (st : List ℕ) (k : ℕ) (v : Level) (at : ℕ) → k < most_levels → length st ≡ stack_words
      → left L s type bs (sets st (k * level_words) (words_of v)) (suc k) at
      ≡ both (level_rows L s type bs k (message_in s type k v) at v.end) (left L s type bs st k v.end)
  unfolding left
  left-pushed st k v at h size =
      rw (level-read st k v h size, left_below st k (words_of v) k v.end (omega arith))

  -- the start of option bytes
  pub left-first : (p : LookupScope) (st : List ℕ) → level_at st 0 ≡ record { end = length bs; name = span 0 0; place = p }
      → left L s type bs st 1 0 ≡ flat 0 (reading L s most_levels (message type p) 0 bs)
  unfolding left level_rows reading
  left-first p st e = rw (e, both-last, message-outer, part-all)

-- ---- levels that have ended
module _ (L : Lookups) (s type bs st : List ℕ) where
  pub left-none : (at r : ℕ) → r ≡ 0 → left L s type bs st r at ≡ give []
  unfolding left
  left-none at r q = rw q

  left-closed : (l at : ℕ) → at ≡ (level_at st l).end → left L s type bs st (suc l) at ≡ left L s type bs st l at
  unfolding left level_rows
  left-closed l at q = rw (part-nil bs at (level_at st l).end (omega arith), records-nil, push-nil) (ap (left L s type bs st l) (sym q))

  pub left-settled : {at d r : ℕ} → Settles st at d r → OpenAt s bs st d at → left L s type bs st d at ≡ left L s type bs st r at
  left-settled none_open o = refl
  left-settled (stays_open h) o = refl
  left-settled {at} (closes {l} h k) o =
      let q : at ≡ (level_at st l).end = omega (arith, open-ahead s bs st l at o) in
      left-closed l at q ∙ left-settled k (open-closed s bs st l at o h)

-- ---- a record at the front of what is left
module _ (L : Lookups) (s type bs st : List ℕ) (l at : ℕ) where
  abbrev end : ℕ
  end = (level_at st l).end

  abbrev inside : Message
  inside = message_in s type l (level_at st l)

  abbrev inner : Message → ℕ → List ℕ → Listed
  inner = reading L s (most_levels - suc l)

  module _ (more : at < end) (bound : end ≤ length bs) where
    rows-front : level_rows L s type bs l inside at end
        ≡ flat l (follow L s inner inside at (part bs at end) (λ k. records_from L s inner inside (at + k) 0 (drop k (part bs at end)))
        (item L s inside at (part bs at end)))
    unfolding level_rows
    rows-front =
        let some_left : 0 < length (part bs at end) = rw (part_length bs at end bound) (omega arith) in
        ap (flat l) (records-step L s inner inside at (part bs at end) some_left)

    pub left-wrong : (w : Refusal) → item L s inside at (part bs at end) ≡ wrong w → left L s type bs st (suc l) at ≡ refuse w
    unfolding left
    left-wrong w q = rw (rows-front, q)

    pub left-leaf : (e : Entry) (k : ℕ) → item L s inside at (part bs at end) ≡ some (e ∷ []) k
        → left L s type bs st (suc l) at ≡ push (row l e ∷ []) (left L s type bs st (suc l) (at + k))
    unfolding left level_rows
    left-leaf e k q = rw (rows-front, q, flat-leaf, both-push, part-behind)

    module _ (e : Entry) (n : Message) (k size : ℕ) (q : item L s inside at (part bs at end) ≡ into e n k size) where
      pub left-deep : most_levels ≤ suc l → left L s type bs st (suc l) at ≡ refuse BeyondLimit
      unfolding left
      left-deep h = rw (rows-front, q, too-deep L s l n _ _ h)

      -- its inside, what is left of its level, and what is left of those around
      held_rows : left L s type bs st (suc l) at
          ≡ push (row l e ∷ [])
          (both (flat (suc l) (inner n (at + k) (take size (drop k (part bs at end)))))
          (both (flat l (records_from L s inner inside (at + (k + size)) 0 (drop (k + size) (part bs at end)))) (left L s type bs st l end)))
      unfolding left
      held_rows = rw (rows-front, q, flat-held, both-push, both-both)

      rows_behind : both (flat l (records_from L s inner inside (at + (k + size)) 0 (drop (k + size) (part bs at end)))) (left L s type bs st l end)
          ≡ left L s type bs st (suc l) (at + k + size)
      unfolding left level_rows
      rows_behind = let z : at + (k + size) ≡ at + k + size = omega arith in rw (part-behind, z)

      module _ (h : suc l < most_levels) (fits : at + k + size ≤ end) (p : Span) (place : LookupScope) (named : n ≡ message (text s p) place) where
        abbrev level : Level
        level = record { end = at + k + size; name = p; place = place }

        rows_inside : flat (suc l) (inner n (at + k) (take size (drop k (part bs at end))))
            ≡ level_rows L s type bs (suc l) (message_in s type (suc l) level) (at + k) (at + k + size)
        unfolding level_rows
        rows_inside =
            rw (part-inside bs at k size end fits, one_deeper L s l n (at + k) (part bs (at + k) (at + k + size)) h, message-other s type (suc l) level (λ z. omega arith), named)

        pub left-inside : length st ≡ stack_words → left L s type bs st (suc l) at
            ≡ push (row l e ∷ []) (left L s type bs (sets st (suc l * level_words) (words_of level)) (suc (suc l)) (at + k))
        left-inside room =
            held_rows
            ∙ ap (push (row l e ∷ [])) (ap₂ both rows_inside rows_behind ∙ sym (left-pushed L s type bs st (suc l) level (at + k) h room))
