-- The ways through `front_in`, `step_in` and `next`.
-- Assumes nothing.
use Rattle.std.specs.Prelude.{◌≡◌, refl, List, [], ◌∷◌, ℕ, suc, ◌+◌, ◌-◌, ◌*◌, ◌≤◌, ◌<◌, length, None, Some, Result, Err, Ok}
use Rattle.basis.specs.Kit.{sym, ◌∙◌, sets}
use Rattle.basis.proofs.Kit.{arith, add-one, Fits}
use Rattle.basis.proofs.Never.{never}
use mathlib.Core.Path.{subst}
use mir.Syntax.{w32}
use lib.Seq.{length-sets}
use Rattle.limits.specs.Figures.{most_option_bytes, most_levels}
use Rattle.octets.specs.Octets.{part}
use Rattle.reply.specs.declared.Refusal.{Refusal}
use Rattle.reply.specs.declared.Refusal.TheVariants.{BeyondLimit}
use Rattle.reply.specs.Outcome.{Outcome}
use Rattle.field.specs.declared.Span.{Span}
use Rattle.field.specs.Leaf.{text, Lies}
use Rattle.scope.specs.declared.lookup.LookupScope.{LookupScope}
use Rattle.scope.specs.inner.Answers.{InSheet}
use Rattle.lookups.specs.Lookups.{walking}
use Rattle.entries.specs.declared.Entry.{Entry}
use Rattle.entries.specs.declared.Row.{Row}
use Rattle.entries.specs.declared.Front.{Front}
use Rattle.entries.specs.declared.Front.TheVariants.{Leaf, Inside}
use Rattle.entries.specs.Tree.{row}
use Rattle.entries.specs.Item.{Item, some, into, wrong, item}
use Rattle.entries.specs.inner.Fronts.{message, Shows, leaf, inside, wrongly, FrontLies}
use Rattle.levels.specs.declared.Level.{Level}
use Rattle.levels.specs.declared.Cursor.{Cursor}
use Rattle.levels.specs.declared.Event.{Event}
use Rattle.levels.specs.inner.Stack.{level_words, words_of, level_at, message_in}
use Rattle.levels.specs.inner.Left.{event, left, OpenAt, Open, Settles, StepsIn, too-deep, steps-in, Moves, moves, ends, wrongs}
use Rattle.levels.proofs.OpenLaws.{settled-few, settled-more, settled-open, open-later, open-ahead}
use Rattle.levels.proofs.OpenLaws.{open-within, open-name, open-place, open-inside}
use Rattle.levels.proofs.LeftLaws.{message-outer, message-other, left-none, left-settled, left-wrong}
use Rattle.levels.proofs.LeftLaws.{left-leaf, left-deep, left-inside}

-- ---- `step_in`
module _ (st : List ℕ) (d : ℕ) (e : Entry) (p : Span) (q : LookupScope) where
  pub step-too-deep : most_levels ≤ d → StepsIn st d e p q st (Err BeyondLimit)
  step-too-deep h = too-deep h

  pub step-deeper : d < most_levels → (st' : List ℕ)
      → st' ≡ sets st (d * level_words) (words_of (record { end = e.place + e.size; name = p; place = q }))
      → StepsIn st d e p q st' (Ok (event (row (d - 1) e) (record { at = e.place; depth = d + 1 })))
  step-deeper h st' g = steps-in h g

pub ruleset step_laws = (step-too-deep, step-deeper)

-- ---- `front_in`
module _ (s type bs : List ℕ) (l : ℕ) (v : Level) (at : ℕ) (f : Result Front Refusal) where
  pub front-outer : l ≡ 0 → Shows s at (item (walking s) s (message type v.place) at (part bs at v.end)) f
      → Shows s at (item (walking s) s (message_in s type l v) at (part bs at v.end)) f
  front-outer q k = rw (q, message-outer) k

  pub front-inner : (l ≡ 0 → ⊥) → Shows s at (item (walking s) s (message (text s v.name) v.place) at (part bs at v.end)) f
      → Shows s at (item (walking s) s (message_in s type l v) at (part bs at v.end)) f
  front-inner q k = rw (message-other s type l v q) k

-- ---- `front_of`
module _ (s bs st : List ℕ) (l at : ℕ) (v : Level) (read : v ≡ level_at st l) where
  module _ (o : OpenAt s bs st (suc l) at) where
    pub front-name : Lies v.name s
    front-name = rw read (open-name s bs st l at o)

    pub front-place : InSheet s v.place
    front-place = rw read (open-place s bs st l at o)

    pub front-ahead : at ≤ v.end
    front-ahead = rw read (open-ahead s bs st l at o)

    pub front-within : v.end ≤ length bs
    front-within = rw read (open-within s bs st l at o)

  pub front-shows : (type : List ℕ) (f : Result Front Refusal) → Shows s at (item (walking s) s (message_in s type l v) at (part bs at v.end)) f
      → Shows s at (item (walking s) s (message_in s type l (level_at st l)) at (part bs at (level_at st l).end)) f
  front-shows type f k = rw read at k

pub front-lies : (s st : List ℕ) (l at : ℕ) (v : Level) → v ≡ level_at st l → (f : Result Front Refusal) → FrontLies s at v.end f
    → FrontLies s at (level_at st l).end f
front-lies s st l at v read f k = rw read at k

pub ruleset front_laws = (front-outer, front-inner, front-name, front-place, front-ahead, front-within, front-shows, front-lies)

-- ---- what the record at a place shows of the item there
record ShownLeaf (at : ℕ) (i : Item) (x : Entry) (next : ℕ) : Type 0 where
  pub skip : ℕ
  pub is : i ≡ some (x ∷ []) skip
  pub ends_at : next ≡ at + skip

record ShownInside (s : List ℕ) (at : ℕ) (i : Item) (x : Entry) (path : Span) (place : LookupScope) : Type 0 where
  pub skip : ℕ
  pub is : i ≡ into x (message (text s path) place) skip x.size
  pub starts : x.place ≡ at + skip

module _ {s : List ℕ} {at : ℕ} where
  shown-wrong : {i : Item} {f : Result Front Refusal} → Shows s at i f → (w : Refusal) → f ≡ Err w → i ≡ wrong w
  shown-wrong leaf w g = never cc
  shown-wrong (inside h) w g = never cc
  shown-wrong wrongly w g = cc

  shown-leaf : {i : Item} {f : Result Front Refusal} → Shows s at i f → (x : Entry) (next : ℕ) → f ≡ Ok (Leaf x next) → ShownLeaf at i x next
  shown-leaf (leaf {skip}) x next g = record { skip = skip; is = cc; ends_at = cc }
  shown-leaf (inside h) x next g = never cc
  shown-leaf wrongly x next g = never cc

  shown-inside : {i : Item} {f : Result Front Refusal} → Shows s at i f → (x : Entry) (path : Span) (place : LookupScope) → f ≡ Ok (Inside x path place)
      → ShownInside s at i x path place
  shown-inside leaf x path place g = never cc
  shown-inside (inside {e} {p} {q} {skip} h) x path place g =
      let entry : x ≡ e = cc in
      let named : path ≡ p = cc in
      let stands : place ≡ q = cc in
      rw (entry, named, stands) (record { skip = skip; is = refl; starts = h })
  shown-inside wrongly x path place g = never cc

-- ---- where it lies
module _ (s : List ℕ) (at end : ℕ) {f : Result Front Refusal} (k : FrontLies s at end f) where
  leaf-on : (x : Entry) (next : ℕ) → f ≡ Ok (Leaf x next) → (at < next) × (next ≤ end)
  unfolding FrontLies
  leaf-on x next g = rw g at k

  inside_on : (x : Entry) (path : Span) (place : LookupScope) → f ≡ Ok (Inside x path place)
      → (at < x.place) × (x.place + x.size ≤ end) × Lies path s × InSheet s place
  unfolding FrontLies
  inside_on x path place g = rw g at k

abbrev left_at : (s type bs st : List ℕ) → Cursor → Outcome Row
left_at s type bs st c = left (walking s) s type bs st c.depth c.at

-- ---- the record at the cursor, where the level l is the innermost that is open there
module _ (s type bs st : List ℕ) (c : Cursor) (o : Open s bs st c) (l : ℕ) (settled : Settles st c.at c.depth (suc l)) where
  abbrev end : ℕ
  end = (level_at st l).end

  opened : OpenAt s bs st (suc l) c.at
  opened = settled-open s bs st settled o.levels

  lefts : left_at s type bs st c ≡ left (walking s) s type bs st (suc l) c.at
  lefts = left-settled (walking s) s type bs st settled o.levels

  within : end ≤ length bs
  within = open-within s bs st l c.at opened

  few : suc l ≤ most_levels
  few = omega (arith, settled-few settled, o.few)

  module _ {f : Result Front Refusal}
      (shown : Shows s c.at (item (walking s) s (message_in s type l (level_at st l)) c.at (part bs c.at end)) f) where
    front-wrong : (w : Refusal) → f ≡ Err w → Moves s type bs (left_at s type bs st c) c.at st (Err w)
    front-wrong w g =
        wrongs (lefts ∙ left-wrong (walking s) s type bs st l c.at (settled-more settled) within w (shown-wrong shown w g))

    module _ (lies : FrontLies s c.at end f) where
      front-leaf : (x : Entry) (next : ℕ) → f ≡ Ok (Leaf x next)
          → Moves s type bs (left_at s type bs st c) c.at st (Ok (Some (event (row l x) (record { at = next; depth = suc l }))))
      front-leaf x next g =
          let is = shown-leaf shown x next g in
          let on : (c.at < next) × (next ≤ end) = leaf-on s c.at end lies x next g in
          let opens : Open s bs st (record { at = next; depth = suc l }) =
          record {
            size = o.size;
            short = o.short;
            few = few;
            inside = omega (arith, within);
            levels = open-later s bs st l c.at opened next on.1;
          } in
          moves {e = event (row l x) (record { at = next; depth = suc l })} opens
          (lefts ∙ rw is.ends_at (left-leaf (walking s) s type bs st l c.at (settled-more settled) within x is.skip is.is))
          on.0

      module _ (x : Entry) (path : Span) (place : LookupScope) (g : f ≡ Ok (Inside x path place)) where
        is-inside : ShownInside s c.at (item (walking s) s (message_in s type l (level_at st l)) c.at (part bs c.at end)) x path place
        is-inside = shown-inside shown x path place g

        front-deep : most_levels ≤ suc l → Moves s type bs (left_at s type bs st c) c.at st (Err BeyondLimit)
        front-deep h =
            wrongs
            (lefts
            ∙ left-deep (walking s) s type bs st l c.at (settled-more settled) within x (message (text s path) place) is-inside.skip x.size
            is-inside.is h)

        abbrev level : Level
        level = record { end = x.place + x.size; name = path; place = place }

        front-inside : suc l < most_levels
            → Moves s type bs (left_at s type bs st c) c.at (sets st (suc l * level_words) (words_of level))
            (Ok (Some (event (row l x) (record { at = x.place; depth = suc (suc l) }))))
        front-inside h =
            let on = inside_on s c.at end lies x path place g in
            let opens : Open s bs (sets st (suc l * level_words) (words_of level)) (record { at = x.place; depth = suc (suc l) }) =
            record {
              size = length-sets st (suc l * level_words) (words_of level) ∙ o.size;
              short = o.short;
              few = omega arith;
              inside = omega (arith, within, on.1);
              levels =
                  open-inside s bs st l x.place level h o.size on.2 on.3 (omega arith) on.1
                  (open-later s bs st l c.at opened (x.place + x.size) on.1);
            } in
            moves {e = event (row l x) (record { at = x.place; depth = suc (suc l) })} opens
            (lefts
            ∙ rw (← is-inside.starts) at
            (left-inside (walking s) s type bs st l c.at (settled-more settled) within x (message (text s path) place) is-inside.skip
            x.size is-inside.is h (rw is-inside.starts at on.1) path place refl o.size))
            on.0

-- ---- `next`, of which r levels are still open
module _ (s type bs st : List ℕ) (c : Cursor) (o : Open s bs st c) (r : ℕ) (settled : Settles st c.at c.depth r) where
  pub next-end : r ≡ 0 → Moves s type bs (left_at s type bs st c) c.at st (Ok None)
  next-end q = ends (left-settled (walking s) s type bs st settled o.levels ∙ left-none (walking s) s type bs st c.at r q)

  pub next-few : (r ≡ 0 → ⊥) → r - 1 < most_levels
  next-few n = omega (arith, settled-few settled, o.few)

  pub next_level : (r ≡ 0 → ⊥) → Fits w32 (r - 1)
  next_level n = omega (arith, settled-few settled, o.few)

  pub next-most : r ≤ most_levels
  next-most = omega (arith, settled-few settled, o.few)

  module _ (n : r ≡ 0 → ⊥) where
    one_more : r ≡ suc (r - 1)
    one_more = omega arith

    settled-there : Settles st c.at c.depth (suc (r - 1))
    settled-there = subst (Settles st c.at c.depth) one_more settled

    pub next-open : OpenAt s bs st (suc (r - 1)) c.at
    next-open = settled-open s bs st settled-there o.levels

    module _ (f : Result Front Refusal) (shown : Shows s c.at (item (walking s) s (message_in s type (r - 1) (level_at st (r - 1))) c.at
        (part bs c.at (level_at st (r - 1)).end)) f) where
      pub next-wrong : (w : Refusal) → f ≡ Err w → Moves s type bs (left_at s type bs st c) c.at st (Err w)
      next-wrong = front-wrong s type bs st c o (r - 1) settled-there shown

      module _ (lies : FrontLies s c.at (level_at st (r - 1)).end f) where
        pub next-leaf : (x : Entry) (next : ℕ) → f ≡ Ok (Leaf x next)
            → Moves s type bs (left_at s type bs st c) c.at st (Ok (Some (event (row (r - 1) x) (record { at = next; depth = r }))))
        next-leaf x next g =
            subst (λ d. Moves s type bs (left_at s type bs st c) c.at st (Ok (Some (event (row (r - 1) x) (record { at = next; depth = d })))))
            (sym one_more) (front-leaf s type bs st c o (r - 1) settled-there shown lies x next g)

        module _ (x : Entry) (path : Span) (place : LookupScope) (g : f ≡ Ok (Inside x path place)) where
          pub next_fits : x.place + x.size ≤ most_option_bytes
          next_fits =
              omega
              (arith, (inside_on s c.at (level_at st (r - 1)).end lies x path place g).1, open-within s bs st (r - 1) c.at next-open, o.short)

          pub next-deep : (st' : List ℕ) (e : Result Event Refusal) → StepsIn st r x path place st' e → (w : Refusal) → e ≡ Err w
              → Moves s type bs (left_at s type bs st c) c.at st' (Err w)
          next-deep st' e (too-deep h) w q =
              let same : w ≡ BeyondLimit = cc in
              rw same (front-deep s type bs st c o (r - 1) settled-there shown lies x path place g (omega arith))
          next-deep st' e (steps-in h y) w q = never cc

          pub next-inside : (st' : List ℕ) (e : Result Event Refusal) → StepsIn st r x path place st' e → (v : Event) → e ≡ Ok v
              → Moves s type bs (left_at s type bs st c) c.at st' (Ok (Some v))
          next-inside st' e (too-deep h) v q = never cc
          next-inside st' e (steps-in h y) v q =
              let same : v ≡ event (row (r - 1) x) (record { at = x.place; depth = r + 1 }) = cc in
              rw (same, y, add-one r)
              (subst (λ d. Moves s type bs (left_at s type bs st c) c.at
              (sets st (d * level_words) (words_of (record { end = x.place + x.size; name = path; place = place })))
              (Ok (Some (event (row (r - 1) x) (record { at = x.place; depth = suc d })))))
              (sym one_more) (front-inside s type bs st c o (r - 1) settled-there shown lies x path place g (omega arith)))

pub ruleset next_laws =
    (next-end, next-few, next_level, next-most, next-open, next-wrong, next-leaf, next_fits, next-deep, next-inside)
