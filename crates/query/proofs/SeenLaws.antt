-- All rows followed, and what the name makes of the best one: the loop of `follow_rows`, and the ways through `count_of`, `settle`,
-- `see_rows` and `query_over`.
-- Assumes nothing.
use Rattle.std.specs.Prelude.{◌≡◌, refl, Bool, true, false, List, [], ◌∷◌, map, ℕ, ◌+◌, ◌*◌, ◌≤◌, length, Err, None, Some, Ok, Option, Result}
use Rattle.basis.specs.Kit.{sym, ap, ◌∙◌}
use Rattle.basis.specs.First.{only_if}
use Rattle.basis.proofs.Kit.{arith, not-true, not-false}
use Rattle.basis.proofs.Never.{never as nothing_left}
use Rattle.limits.specs.Figures.{most_levels, most_parts}
use Rattle.reply.specs.declared.Refusal.{Refusal}
use Rattle.reply.specs.declared.Cause.{Cause}
use Rattle.reply.specs.Reply.{bare}
use Rattle.reply.specs.Outcome.{Outcome, refused as refused_for, nothing, give, push}
use Rattle.field.specs.Walk.{walk}
use Rattle.request.specs.Name.{parts_in}
use Rattle.requestform.specs.Form.{judge_name}
use Rattle.requestform.proofs.FineLaws.{fine-name, fine-name-few}
use Rattle.scope.specs.declared.lookup.LookupScope.{LookupScope}
use Rattle.lookups.specs.Lookups.{Lookups, Message, walking}
use Rattle.entries.specs.declared.Row.{Row}
use Rattle.entries.specs.Tree.{Tree, rows}
use Rattle.entries.specs.Reading.{Listed, listed, refused, reading}
use Rattle.entries.specs.inner.Fronts.{message}
use Rattle.levels.specs.declared.Cursor.{Cursor}
use Rattle.levels.specs.declared.Event.{Event}
use Rattle.levels.specs.inner.Left.{flat, left, Open, Starts, Moves}
use Rattle.levels.proofs.StartLaws.{start-open, start_left}
use Rattle.levels.proofs.MovesLaws.{moved_open, moved-rest, moved-less, moved-end, moved-wrong}
use Rattle.following.specs.declared.Step.{Step}
use Rattle.naming.specs.declared.Naming.{Naming}
use Rattle.naming.specs.declared.Naming.TheVariants.{Parts, Group}
use Rattle.naming.specs.Name.{Named, declarations}
use Rattle.following.specs.Reached.{never}
use Rattle.following.specs.inner.Keys.{key_of, key_words, keys_from}
use Rattle.naming.specs.inner.Naming.{Namable, Declares, declares, leaves-group, refuses}
use Rattle.following.specs.inner.Following.{Followed, nothing_yet, after, step_of, follow, followed}
use Rattle.query.specs.inner.Answering.{seen_in, count_of, settled, of_named, of_listed, queried}
use Rattle.naming.proofs.NameLaws.{declarations-length}
use Rattle.following.proofs.FollowLaws.{step_after}
use Rattle.following.proofs.ReachedLaws.{followed-reached}
use Rattle.reply.specs.Verdicts.{fine}

-- ---- follow_rows: the rows before the cursor are followed
seen-push : (ks : List ℕ) (n : ℕ) (f : Followed) (x : Row) (o : Outcome Row)
    → seen_in ks n f (push (x ∷ []) o) ≡ seen_in ks n (follow ks n f x) o
seen-push ks n f x (give xs) = refl
seen-push ks n f x nothing = refl
seen-push ks n f x (refused_for c) = refl

-- of the row that was taken last, where it counts
abbrev so_far : (matched : ℕ) (counts : Bool) (taken : Option Row) → Followed
so_far k o b = record { matched = k; best = only_if o b None }

pub record Seeing (s type bs ks : List ℕ) (n : ℕ) (whole : Outcome Row) (st : List ℕ) (c : Cursor) (k : ℕ) (o : Bool) (b : Option Row) : Type 0 where
  pub opens : Open s bs st c
  pub rest : seen_in ks n nothing_yet whole ≡ seen_in ks n (so_far k o b) (left (walking s) s type bs st c.depth c.at)

pub seeing-start : (s type bs ks : List ℕ) (n : ℕ) (st : List ℕ) (c : Cursor) (b : Option Row) → Open s bs st c
    → Seeing s type bs ks n (left (walking s) s type bs st c.depth c.at) st c 0 false b
seeing-start s type bs ks n st c b o = record { opens = o; rest = refl }

module _ (s type bs ks : List ℕ) (n : ℕ) (whole : Outcome Row) (st : List ℕ) (c : Cursor) (k : ℕ) (o : Bool) (b : Option Row)
    (u : Seeing s type bs ks n whole st c k o b) where
  pub seeing-open : Open s bs st c
  seeing-open = u.opens

  module _ (st' : List ℕ) (r : Result (Option Event) Refusal)
      (v : Moves s type bs (left (walking s) s type bs st c.depth c.at) c.at st' r) where
    ended : r ≡ Ok None → seen_in ks n nothing_yet whole ≡ Ok (so_far k o b).best
    ended g = u.rest ∙ ap (seen_in ks n (so_far k o b)) (moved-end s type bs _ c.at st' r v g)

    pub seeing-found : r ≡ Ok None → o ≡ true → Ok b ≡ seen_in ks n nothing_yet whole
    seeing-found g h = sym (ended g ∙ ap (λ (x : Bool). Ok (only_if x b None)) h)

    pub seeing-none : r ≡ Ok None → o ≡ false → Ok None ≡ seen_in ks n nothing_yet whole
    seeing-none g h = sym (ended g ∙ ap (λ (x : Bool). Ok (only_if x b None)) h)

    pub seeing-wrong : (w : Refusal) → r ≡ Err w → (c' : Cause) → c' ≡ bare w → Err c' ≡ seen_in ks n nothing_yet whole
    seeing-wrong w g c' e = ap Err e ∙ sym (u.rest ∙ ap (seen_in ks n (so_far k o b)) (moved-wrong s type bs _ c.at st' r v w g))

    module _ (t : Event) (g : r ≡ Ok (Some t)) (y : Step) (e : y ≡ step_of ks n k o t.row.level t.row.entry.by) where
      stepped : (b' : Option Row) → only_if y.takes (Some t.row) b ≡ b' → Seeing s type bs ks n whole st' t.rest y.matched y.counts b'
      stepped b' h =
          let f = so_far k o b in
          let next = left (walking s) s type bs st' t.rest.depth t.rest.at in
          record {
            opens = moved_open s type bs _ c.at st' r v t g;
            rest =
                u.rest ∙ ap (seen_in ks n f) (moved-rest s type bs _ c.at st' r v t g) ∙ seen-push ks n f t.row next
                ∙ ap (λ (p : Followed). seen_in ks n p next) (sym (step_after ks n k o b t.row) ∙ ap (λ (z : Step). after z b t.row) (sym e))
                ∙ ap (λ (p : Option Row). seen_in ks n (so_far y.matched y.counts p) next) h;
          }

      pub seeing-taken : y.takes ≡ true → (b' : Option Row) → Some t.row ≡ b' → Seeing s type bs ks n whole st' t.rest y.matched y.counts b'
      seeing-taken h b' z = stepped b' (ap (λ (z : Bool). only_if z (Some t.row) b) h ∙ z)

      pub seeing-kept : y.takes ≡ false → Seeing s type bs ks n whole st' t.rest y.matched y.counts b
      seeing-kept h = stepped b (ap (λ (z : Bool). only_if z (Some t.row) b) h)

pub ruleset seeing_laws = (
  not-true,
  not-false,
  seeing-start,
  seeing-open,
  seeing-found,
  seeing-none,
  seeing-wrong,
  seeing-taken,
  seeing-kept,
  moved-less,
)

-- ---- count_of and settle
module _ (r : Result Naming Cause) where
  pub count-parts : (n : ℕ) → r ≡ Ok (Parts n) → n ≡ count_of r
  count-parts n e = rw e

  pub count-group : r ≡ Ok Group → 0 ≡ count_of r
  count-group e = rw e

  pub count-refused : (c : Cause) → r ≡ Err c → 0 ≡ count_of r
  count-refused c e = rw e

  module _ (b : Option Row) where
    pub settle-parts : (n : ℕ) → r ≡ Ok (Parts n) → Ok b ≡ settled r b
    settle-parts n e = rw e

    pub settle-group : r ≡ Ok Group → Ok None ≡ settled r b
    settle-group e = rw e

    pub settle-refused : (c : Cause) → r ≡ Err c → Err c ≡ settled r b
    settle-refused c e = rw e

pub ruleset name_settle_laws = (count-parts, count-group, count-refused, settle-parts, settle-group, settle-refused)

-- ---- see_rows
module _ (p : LookupScope) (bs st : List ℕ) (c : Cursor) (k : Starts p bs st c) where
  pub all_seen : (s type ks : List ℕ) (n : ℕ) (r : Result (Option Row) Cause) → r ≡ seen_in ks n nothing_yet (left (walking s) s type bs st c.depth c.at)
      → r ≡ seen_in ks n nothing_yet (flat 0 (reading (walking s) s most_levels (message type p) 0 bs))
  all_seen s type ks n r e = e ∙ ap (seen_in ks n nothing_yet) (start_left p bs st c k (walking s) s type)

pub ruleset see_rows_laws = (start-open, all_seen)

-- ---- query_over
module _ (q : List ℕ) (fine : judge_name q ≡ fine) (us : List ℕ) (size : length us ≡ most_parts * key_words) where
  pub over-namable : (scope : List ℕ) → length scope ≡ 0 → Namable q scope 0 0 us
  over-namable scope e = record {
    within = omega arith;
    parts = fine-name q fine;
    empty = none scope e;
    room = omega (arith, fine-name-few q fine);
    few = omega arith;
  }
    where
      none : (xs : List ℕ) → length xs ≡ 0 → xs ≡ []
      none [] h = refl
      none (x ∷ xs) h = absurd (omega arith)

  module _ (L : Lookups) (s : List ℕ) (m : Message) where
    -- as many declarations as parts
    parts-few : {x : Named} {i : ℕ} {ws ws' : List ℕ} {v : Result Naming Cause} {j : ℕ} → Declares never x i ws ws' v
        → x ≡ declarations L s q 0 m (parts_in (walk q 0 (length q))) → v ≡ Ok (Parts j) → i ≡ 0 → j ≤ length (parts_in (walk q 0 (length q)))
    parts-few {j = j} (declares {ds} {k = i} {n = h} e f o) a g z =
        let same : h ≡ j = cc in
        omega (arith, declarations-length L s q (parts_in (walk q 0 (length q))) 0 m ds (sym a))
    parts-few leaves-group a g z = nothing_left cc
    parts-few refuses a g z = nothing_left cc

    pub over-room : (r : Result Naming Cause) (n : ℕ) → n ≡ count_of r → (ws : List ℕ) → length ws ≡ length us
        → Declares never (declarations L s q 0 m (parts_in (walk q 0 (length q)))) 0 us ws r → n * key_words ≤ length ws
    over-room (Ok (Parts i)) n e ws h k = omega (arith, fine-name-few q fine, parts-few {j = i} k refl refl refl)
    over-room (Ok Group) n e ws h k = omega arith
    over-room (Err c) n e ws h k = omega arith

module _ (L : Lookups) (s q : List ℕ) (m : Message) (bs ks : List ℕ) (n : ℕ) (v : Result (Option Row) Cause)
    (e : v ≡ seen_in ks n nothing_yet (flat 0 (reading L s most_levels m 0 bs))) where
  pub over-wrong : (c : Cause) → v ≡ Err c → Err c ≡ queried L s q m bs
  unfolding queried
  over-wrong c g = go (reading L s most_levels m 0 bs) (sym e ∙ g)
    where
      go : (x : Listed) → seen_in ks n nothing_yet (flat 0 x) ≡ Err c
          → Err c ≡ of_listed (declarations L s q 0 m (parts_in (walk q 0 (length q)))) x
      go (listed t) h = nothing_left cc
      go (refused w) h = sym h

  pub over-settled : (b : Option Row) → v ≡ Ok b → (us : List ℕ) (r : Result Naming Cause) → n ≡ count_of r
      → Declares never (declarations L s q 0 m (parts_in (walk q 0 (length q)))) 0 us ks r
      → (y : Result (Option Row) Cause) → y ≡ settled r b → y ≡ queried L s q m bs
  unfolding queried
  over-settled b g us r c k y z = z ∙ go (reading L s most_levels m 0 bs) (sym e ∙ g)
    where
      by : {x : Named} {i : ℕ} {ws ws' : List ℕ} {r : Result Naming Cause} (t : Tree) → Declares never x i ws ws' r → i ≡ 0 → ws' ≡ ks → n ≡ count_of r
          → b ≡ (followed ks n nothing_yet (rows 0 t)).best → settled r b ≡ of_named x t
      by t (declares {ds} {k = i} {n = j} {ws} {ws'} h f o) z a d p =
          let count : n ≡ 0 + length ds = omega arith in
          let keys : keys_from ks 0 (length ds) ≡ map (key_of never) ds = rw (z, a) at f in
          ap Ok (p ∙ followed-reached never ks ds n t count keys)
      by t leaves-group z a d p = refl
      by t refuses z a d p = refl

      go : (x : Listed) → seen_in ks n nothing_yet (flat 0 x) ≡ Ok b
          → settled r b ≡ of_listed (declarations L s q 0 m (parts_in (walk q 0 (length q)))) x
      go (listed t) h = by t k refl refl c cc
      go (refused w) h = nothing_left cc

pub ruleset query_over_laws = (over-namable, over-room, over-wrong, over-settled)
