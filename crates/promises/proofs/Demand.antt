-- Demand 3: what is written under a newer sheet is listed under an older one that is contained in it. Of the definitions first, then of
-- the calls' own contracts. The statements stand at the end of each part.
-- Assumes nothing.
use Rattle.std.specs.Prelude.{◌≡◌, refl, Bool, true, false, List, map, ℕ, ◌<◌, ltb, length, take, drop, Err, Ok}
use Rattle.basis.specs.Kit.{sym, ap, ◌∙◌}
use Rattle.basis.proofs.Kit.{arith, le-ltb}
use lib.Dec.{ltb→lt}
use lib.Seq.{take_at}
use Rattle.limits.specs.Figures.{most_levels}
use Rattle.octets.proofs.Bytes.{Bytes}
use Rattle.reply.specs.declared.Refusal.{Refusal}
use Rattle.reply.specs.declared.Refusal.TheVariants.{NoRoom}
use Rattle.reply.specs.declared.Cause.{Cause}
use Rattle.reply.specs.declared.Answer.{Answer}
use Rattle.reply.specs.Reply.{number, bare, refused_for, refused_by, done_with, decided}
use Rattle.reply.specs.Verdicts.{first_fault, asked, Verdict, fine}
use Rattle.reply.specs.Outcome.{refuse, give, within, answer_of, left_of, Answered}
use Rattle.reply.proofs.Rows.{every-at}
use Rattle.lookups.specs.Lookups.{Message, walking}
use Rattle.records.specs.Records.{Recs, encode}
use Rattle.sheetform.specs.Form.{judge_sheet}
use Rattle.names.specs.Names.{message}
use Rattle.names.specs.Clean.{clean}
use Rattle.names.specs.Contained.{contained}
use Rattle.finds.proofs.Reach.{named}
use Rattle.finds.proofs.Finds.{names-path}
use Rattle.options.specs.Steps.{Steps, records, absent, refused}
use Rattle.options.specs.Resolve.{resolving, outcome_of, resolve_bytes}
use Rattle.entries.specs.Tree.{rows, words_of}
use Rattle.listing.specs.Listing.{listing}
use Rattle.readback.specs.Seen.{seen}
use Rattle.readback.specs.Typed.{content_of}
use Rattle.readback.proofs.OlderBytes.{older-bytes}
use Rattle.readback.proofs.OlderRows.{older-rows}
use Rattle.readback.proofs.UnderLaws.{reading-under}
use Rattle.evolution.specs.Calls.{clean_answer, contained_answer}
use Rattle.promises.specs.Evolve.{CleanSheet, declares, ListedUnder, OldReads}
use Rattle.places.specs.Places.{options_type}
use Rattle.promises.proofs.Bounds.{resolve-few, resolved-fine}
use Rattle.promises.proofs.Levels.{resolve-levels}
use Rattle.promises.proofs.CleanLaws.{NamesMessage, among-message}
use Rattle.promises.proofs.EvolveLaws.{One, clean-once, clean_found, contained-keeps}
use Rattle.promises.proofs.BackLaws.{nested-few, listing-is, type-fine, resolved-proper, resolved-typed}

module _ (older newer r : List ℕ) (octets : Bytes newer) (octets' : Bytes r) (o : CleanSheet older) (n : CleanSheet newer)
    (within : contained older newer ≡ true) (known : declares older (options_type r) ≡ true)
    (x : Recs) (e : resolving newer r ≡ records x) where
  abbrev type : List ℕ
  type = options_type r

  -- the options type in the older sheet
  there : NamesMessage older type
  there = among-message older type known

  at : (walking older).message type ≡ Ok there.scope.place
  at = clean_found older o.fine o.clear type there.scope there.among

  abbrev m : Message
  m = record { name = type; place = there.scope.place }

  -- ==== of the definitions
  pub listed-under : ListedUnder older type x
  listed-under =
      let typed = resolved-typed newer r octets octets' x e (clean-once newer n.fine n.clear) in
      let m' : Message = record { name = type; place = typed.place } in
      let one : One older newer o.fine o.clear n.fine n.clear within m m' = record {
        name = refl;
        path = names-path older o.fine (named type (message there.scope)) there.among;
        found = at;
        found' = typed.found;
      } in
      let keeps = contained-keeps older newer o.fine o.clear n.fine n.clear within in
      let proper = resolved-proper newer r octets octets' x e in
      let few = resolve-few (judge_sheet newer) newer r x e in
      let levels = resolve-levels (judge_sheet newer) newer r x e in
      let path = type-fine r (resolved-fine (judge_sheet newer) newer r x e) in
      let tree = seen (walking older) older m x 0 in
      let read = older-bytes (walking older) older (walking newer) newer _ keeps proper m m' one typed.typed 0 most_levels
      (omega arith) (omega (arith, nested-few x)) in
      record {
        rows = rows 0 tree;
        listed = listing-is older type (encode x) o.fine path few m tree
            (reading-under (walking older) older type (encode x) there.scope.place at tree read);
        same = rw at (older-rows (walking older) older (walking newer) newer _ keeps proper m m' one typed.typed);
      }

-- ---- answers
refused-done : (c : Cause) (n : ℕ) → refused_for c ≡ done_with n → ⊥
refused-done c n e =
    let some : 0 < number c.why = ltb→lt _ _ (every-at (λ v. ltb 0 (number v)) tt c.why) in
    let none : number c.why ≡ 0 = ap (λ (a : Answer). a.reply) e in
    omega arith

refused-yes : (w : Refusal) → refused_by w ≡ decided true → ⊥
refused-yes w e =
    let some : 0 < number w = ltb→lt _ _ (every-at (λ v. ltb 0 (number v)) tt w) in
    let none : number w ≡ 0 = ap (λ (a : Answer). a.reply) e in
    omega arith

-- a call that said yes
decided-true : (b : Bool) → decided b ≡ decided true → b ≡ true
decided-true true e = refl
decided-true false e = absurd (let none : 0 ≡ 1 = ap (λ (a : Answer). a.second) e in omega arith)

asked-fine : (v : Verdict) (b : Bool) → asked v b ≡ decided true → v ≡ fine
asked-fine (Ok _) b e = refl
asked-fine (Err w) b e = absurd (refused-yes w e)

asked-true : (v : Verdict) (b : Bool) → asked v b ≡ decided true → b ≡ true
asked-true (Ok _) b e = decided-true b e
asked-true (Err w) b e = absurd (refused-yes w e)

clean-sheet : (s : List ℕ) → clean_answer s ≡ decided true → CleanSheet s
clean-sheet s e = record { fine = asked-fine (judge_sheet s) (clean s) e; clear = asked-true (judge_sheet s) (clean s) e }

-- a call that wrote n bytes
record Wrote (newer r after : List ℕ) (n : ℕ) : Type 0 where
  written : Recs
  steps : resolving newer r ≡ records written
  encoded : take n after ≡ encode written

module _ (newer r before after : List ℕ) (a : Answer) (n : ℕ) where
  given : (x : Recs) → resolving newer r ≡ records x → (b : Bool) → ltb (length before) (length (encode x)) ≡ b
      → done_with n ≡ answer_of {A = ℕ} (elim b [ true ↦ refuse NoRoom | false ↦ give (encode x) ])
      → after ≡ left_of (elim b [ true ↦ refuse NoRoom | false ↦ give (encode x) ]) before → Wrote newer r after n
  given x s true h p q = absurd (refused-done (bare NoRoom) n (sym p))
  given x s false h p q =
      let l : n ≡ length (encode x) = ap (λ (a : Answer). a.length) p in
      record { written = x; steps = s; encoded = ap (take n) q ∙ take_at (encode x) (drop (length (encode x)) before) n (sym l) }

  wrote : Answered (resolve_bytes newer r) before after a → a ≡ done_with n → Wrote newer r after n
  unfolding resolve_bytes
  wrote k d = go (resolving newer r) refl (sym d ∙ k.answer) k.left
    where
      go : (u : Steps) → resolving newer r ≡ u → done_with n ≡ answer_of (within (length before) (outcome_of u))
          → after ≡ left_of (within (length before) (outcome_of u)) before → Wrote newer r after n
      go (records x) s p q = given x s (ltb (length before) (length (encode x))) refl p q
      go absent s p q = absurd (let none : 0 ≡ 1 = ap (λ (a : Answer). a.absent) p in omega arith)
      go (refused e) s p q = absurd (refused-done e n (sym p))

-- ==== of the calls' own contracts
module _ (older newer r : List ℕ) (octets : Bytes newer) (octets' : Bytes r) (clear : clean_answer older ≡ decided true)
    (clear' : clean_answer newer ≡ decided true) (inside : contained_answer older newer ≡ decided true)
    (known : declares older (options_type r) ≡ true) where
  pub old-reads : (before after : List ℕ) (a : Answer) → Answered (resolve_bytes newer r) before after a → (n : ℕ) → a ≡ done_with n
      → (room left : List ℕ) (b : Answer) → Answered (listing older (options_type r) (take n after)) room left b
      → OldReads older newer r (take n after) room left b
  old-reads before after a k n d room left b l =
      let w = wrote newer r before after a n k d in
      let x = w.written in
      let both = asked-true (first_fault (judge_sheet older) (judge_sheet newer)) (contained older newer) inside in
      let y = listed-under older newer r octets octets' (clean-sheet older clear) (clean-sheet newer clear') both known x w.steps in
      let o : listing older (options_type r) (take n after) ≡ give (words_of y.rows) =
      ap (listing older (options_type r)) w.encoded ∙ y.listed in
      record {
        written = x;
        steps = w.steps;
        encoded = w.encoded;
        rows = y.rows;
        same = ap (λ z. map (content_of z) y.rows) w.encoded ∙ y.same;
        answer = λ h. l.answer ∙ rw o (simp (within, le-ltb _ _ h));
        memory = λ h. l.left ∙ rw o (simp (within, le-ltb _ _ h));
      }
