-- The loop of `gather`: the options before a place are gathered, and one more is.
--
--   Gathering L s r h l m ns₀ ns at p n i <-> the n options before the place i are gathered: what they wrote is laid over l, from `at` up
--                                            to p, the notes, ns₀ at first, are those of the builtins that they set; and what all come
--                                            to is what the options that are left come to after them
--
-- Assumes nothing.
use Rattle.std.specs.Prelude.{◌≡◌, refl, List, [], ℕ, ◌+◌, ◌-◌, ◌≤◌, ◌<◌, length, drop, None, Some, Option, Err, Ok, Result}
use Rattle.basis.specs.Kit.{sym, ap, ◌∙◌}
use Rattle.basis.proofs.Kit.{arith}
use native.Mathlib.Nat.{add-zero}
use lib.ListN.{length-append}
use Rattle.basis.proofs.Never.{never}
use Rattle.limits.specs.Figures.{most_options}
use Rattle.octets.specs.inner.Laid.{Laid}
use Rattle.octets.proofs.Overlay.{laid-append, laid-length}
use Rattle.field.specs.Field.{field_at}
use Rattle.field.specs.Leaf.{text}
use Rattle.field.proofs.FieldLaws.{field-ordered}
use Rattle.request.specs.Request.{RequestOption}
use Rattle.records.specs.Records.{Recs, nil, append, encode}
use Rattle.records.specs.inner.Emits.{bytes_most, Emits, Roomy}
use Rattle.records.proofs.RecsLaws.{append-nil-right, encode-append}
use Rattle.lookups.specs.Lookups.{Lookups}
use Rattle.known.specs.Known.{Known, set_known, known_recs}
use Rattle.known.specs.inner.Notes.{note_of, noted, Noted}
use Rattle.known.proofs.KnownLaws.{known-few}
use Rattle.known.proofs.NoteLaws.{noted-length}
use Rattle.known.proofs.NotedLaws.{noted-start, noted-none, noted-set}
use Rattle.options.specs.declared.settle.Start.{Start}
use Rattle.reply.specs.declared.Cause.{Cause}
use Rattle.options.specs.declared.settle.Settling.{Settling}
use Rattle.options.specs.Settle.{Settled, known, others, fails}
use Rattle.options.specs.inner.Settling.{message_of, settled_at, others_of, note_in, set_recs, settling, settling_of, Started, Settleable}
use Rattle.options.specs.Options.{Gathered, stopped, next, gather}
use Rattle.options.specs.inner.Gathering.{options_of, gathered_by, made_at, FineFrom, tally, Gathers, gives, stops}
use Rattle.options.proofs.ReachedLaws.{Reached, reached-start, reached-end, reached-cut, reached-parts, reached-few, reached-fits}
use Rattle.options.proofs.ReachedLaws.{reached-first, reached-made, reached-next, reached-size}
use Rattle.options.proofs.SetLaws.{set-few}
use Rattle.field.specs.declared.Field.{Field}
use Rattle.field.specs.declared.fields.Fields.{Fields}
use Rattle.field.specs.Fields.{Goes}
use Rattle.field.proofs.InFields.{Over, over-start, over-before, over-read, over-next, over-at}
use Rattle.basis.proofs.Kit.{w64, Fits}

abbrev gather_from : Lookups → (s r : List ℕ) → Start → (option : ℕ) → List Known → Recs → List RequestOption → Gathered
gather_from L s r h = gather L s r (text r h.scope) (message_of r h)

pub record Gathering (L : Lookups) (s r : List ℕ) (h : Start) (l m ns₀ ns : List ℕ) (at p n i : ℕ) : Type 0 where
  pub knowns : List Known
  pub rest : Recs
  pub reached : Reached r h n i
  pub laid : Laid l at (encode rest) m p
  pub noted : Noted (made_at L s r h) ns n knowns
  pub kept : length ns ≡ length ns₀
  pub places : most_options ≤ length ns₀
  pub whole : gathered_by L s r h ≡ gather_from L s r h n knowns rest (drop n (options_of r h))
  pub few : length (encode rest) + length (encode (known_recs knowns)) + bytes_most h.options ≤ bytes_most i

gathering-start : (L : Lookups) (s r : List ℕ) (h : Start) → FineFrom r h → (l ns : List ℕ) → most_options ≤ length ns → (at : ℕ)
    → Gathering L s r h l l ns ns at at 0 h.options
unfolding encode gathered_by
gathering-start L s r h f l ns k at = record {
  knowns = [];
  rest = nil;
  reached = reached-start r h f;
  laid = record { next = sym (add-zero at); left = refl };
  noted = noted-start (made_at L s r h) ns;
  kept = refl;
  places = k;
  whole = refl;
  few = omega arith;
}

-- records behind others
laid_more : (l m m' : List ℕ) (at p q : ℕ) (x y : Recs) → Laid l at (encode x) m p → Laid m p (encode y) m' q
    → Laid l at (encode (append x y)) m' q
laid_more l m m' at p q x y a b = rw (encode-append x y) (laid-append (encode x) (encode y) a b)

pub append-size : (x y : Recs) → length (encode (append x y)) ≡ length (encode x) + length (encode y)
append-size x y = ap length (encode-append x y) ∙ length-append (encode x) (encode y)

module _ (L : Lookups) (s r : List ℕ) (h : Start) (l m ns₀ ns : List ℕ) (at p n i : ℕ) (u : Gathering L s r h l m ns₀ ns at p n i) where
  gathering-length : length m ≡ length l
  gathering-length = laid-length (encode u.rest) u.laid

  gathering-after : (m' : List ℕ) → length m' ≡ length m → length m' ≡ length l
  gathering-after m' e = e ∙ gathering-length

  gathering-notes : length ns ≡ length ns₀
  gathering-notes = u.kept

  gathering-end : length r ≤ i → Gathers (made_at L s r h) (bytes_most (length r)) (gathered_by L s r h) at l m ns (Ok (tally n p))
  gathering-end e =
      rw (u.whole, reached-end r h n i u.reached e)
      (gives u.laid u.noted u.reached.count
      (omega (arith, u.few, u.reached.inside, append-size (known_recs u.knowns) u.rest)))

  gathering-noted : i < length r → n < length ns
  gathering-noted o = omega (arith, reached-few r h n i u.reached o, u.kept, u.places)

  module _ (o : i < length r) (f : Option Field) (q : f ≡ field_at r i (length r)) where
    gathering-cut : f ≡ None → Gathers (made_at L s r h) (bytes_most (length r)) (gathered_by L s r h) at l m ns (Ok (tally n p))
    gathering-cut g = reached-cut r h n i u.reached o f q g

    module _ (here : Field) (g : f ≡ Some here) where
      gathering-room : Roomy at (length r) r → Roomy p (here.to - here.from) r
      gathering-room k =
          let x = reached-next r h n i u.reached o f q here g in
          record { room = omega (arith, k.room, u.few, u.laid.next, x.inside, reached-size r h n i u.reached o f q here g) }

      gathering-settleable : Started s r h → Roomy at (length r) r → Settleable s r h n here.from here.to p
      gathering-settleable y k = record {
        started = y;
        count = u.reached.count;
        ordered = field-ordered r i (length r) f q here g;
        within = (reached-next r h n i u.reached o f q here g).inside;
        parts = reached-parts r h n i u.reached o f q here g;
        room = gathering-room k;
      }

      -- what is come to by what this option comes to
      gathering-whole : (v : Settled) → v ≡ settled_at L s r h here.from here.to
          → gathered_by L s r h
          ≡ next n u.knowns u.rest v (λ ks x. gather_from L s r h (n + 1) ks x (drop (n + 1) (options_of r h)))
      unfolding settled_at
      gathering-whole v w =
          u.whole
          ∙ ap (gather_from L s r h n u.knowns u.rest) (reached-first r h n i u.reached o f q here g)
          ∙ ap (λ z. next n u.knowns u.rest z (λ ks x. gather_from L s r h (n + 1) ks x (drop (n + 1) (options_of r h)))) (sym w)

      module _ (m' : List ℕ) (y : Result Settling Cause) where
        refused-by : (v : Settled) → v ≡ settled_at L s r h here.from here.to → (stop : Cause)
            → Emits (settling_of n (note_in v)) (others_of v) (bytes_most (here.to - here.from)) m p m' y → y ≡ Err stop → gathered_by L s r h ≡ stopped stop
        unfolding settling_of
        refused-by (known k) w stop b z = let c = b.answer in never cc
        refused-by (others x) w stop b z = let c = b.answer in never cc
        refused-by (fails k) w stop b z = let c = b.answer in gathering-whole (fails k) w ∙ cc

        next-by : (v : Settled) → v ≡ settled_at L s r h here.from here.to → (t : Settling) (ns' : List ℕ)
            → Emits (settling_of n (note_in v)) (others_of v) (bytes_most (here.to - here.from)) m p m' y → y ≡ Ok t → ns' ≡ noted n t.note ns
            → Gathering L s r h l m' ns₀ ns' at t.next (n + 1) here.to
        unfolding settling_of
        next-by (known k) w t ns' b d j =
            let c = b.answer in
            let same : t ≡ settling (note_of k) (p + length (encode nil)) = cc in
            let x : t.note ≡ note_of k = ap (λ (g : Settling). g.note) same in
            let y : t.next ≡ p + length (encode nil) = ap (λ (g : Settling). g.next) same in
            let size = set-few L s r h here.from here.to (field-ordered r i (length r) f q here g) (reached-parts r h n i u.reached o f q here g) in
            let own : length (encode k.made) ≤ bytes_most (here.to - here.from) = rw (← w) at size in
            record {
              knowns = set_known k u.knowns;
              rest = u.rest;
              reached = reached-next r h n i u.reached o f q here g;
              laid = rw (append-nil-right u.rest) at
                  (laid_more l m m' at p t.next u.rest nil u.laid (record { next = y; left = b.left nil refl }));
              noted = noted-set (made_at L s r h) ns n u.knowns u.noted (gathering-noted o) k
                  (reached-made r h n i u.reached o f q here g L s ∙ ap set_recs (sym w)) t.note x ns' j;
              kept = ap length j ∙ noted-length n t.note ns ∙ u.kept;
              places = u.places;
              whole = gathering-whole (known k) w;
              few = omega (arith, u.few, own, known-few k u.knowns, reached-size r h n i u.reached o f q here g);
            }
        next-by (others x) w t ns' b d j =
            let c = b.answer in
            let same : t ≡ settling 0 (p + length (encode x)) = cc in
            let y : t.next ≡ p + length (encode x) = ap (λ (g : Settling). g.next) same in
            let none : t.note ≡ 0 = ap (λ (g : Settling). g.note) same in
            record {
              knowns = u.knowns;
              rest = append u.rest x;
              reached = reached-next r h n i u.reached o f q here g;
              laid = laid_more l m m' at p t.next u.rest x u.laid (record { next = y; left = b.left x refl });
              noted = noted-none (made_at L s r h) ns n u.knowns u.noted (gathering-noted o) ns' (rw none at j);
              kept = ap length j ∙ noted-length n t.note ns ∙ u.kept;
              places = u.places;
              whole = gathering-whole (others x) w;
              few = omega (arith, u.few, b.few x refl, append-size u.rest x, reached-size r h n i u.reached o f q here g);
            }
        next-by (fails k) w t ns' b d j = let c = b.answer in never cc

        module _ (b : Emits (settling_of n (note_in (settled_at L s r h here.from here.to))) (others_of (settled_at L s r h here.from here.to)) (bytes_most (here.to - here.from)) m p m' y)
          where
            gathering-refused : (stop : Cause) → y ≡ Err stop
                → Gathers (made_at L s r h) (bytes_most (length r)) (gathered_by L s r h) at l m' ns (Err stop)
            gathering-refused stop z = rw (refused-by (settled_at L s r h here.from here.to) refl stop b z) stops

            gathering-next : (t : Settling) → y ≡ Ok t → (ns' : List ℕ) → ns' ≡ noted n t.note ns
                → Gathering L s r h l m' ns₀ ns' at t.next (n + 1) here.to
            gathering-next t d ns' j = next-by (settled_at L s r h here.from here.to) refl t ns' b d j

-- ---- the same, where the walk `it` over the options stands
pub record GatheringIn (L : Lookups) (s r : List ℕ) (h : Start) (l m ns₀ ns : List ℕ) (at p n : ℕ) (it : Fields) : Type 0 where
  pub over : Over it r (length r)
  pub here : Gathering L s r h l m ns₀ ns at p n it.at

pub gather-start : (L : Lookups) (s r : List ℕ) (h : Start) (it : Fields) → it.bytes.now ≡ r → it.at ≡ h.options → it.end ≡ length r
    → FineFrom r h → (l ns : List ℕ) → most_options ≤ length ns → (at : ℕ) → GatheringIn L s r h l l ns ns at at 0 it
gather-start L s r h it b a e f l ns k at = record { over = over-start it r (length r) b e; here = rw a (gathering-start L s r h f l ns k at) }

module _ (L : Lookups) (s r : List ℕ) (h : Start) (l m ns₀ ns : List ℕ) (at p n : ℕ) (it : Fields)
    (u : GatheringIn L s r h l m ns₀ ns at p n it) where
  pub gather-length : length m ≡ length l
  gather-length = gathering-length L s r h l m ns₀ ns at p n it.at u.here

  pub gather-after : (m' : List ℕ) → length m' ≡ length m → length m' ≡ length l
  gather-after m' e = e ∙ gather-length

  pub gather-notes : length ns ≡ length ns₀
  gather-notes = u.here.kept

  pub gather-end : it.end ≤ it.at → Gathers (made_at L s r h) (bytes_most (length r)) (gathered_by L s r h) at l m ns (Ok (tally n p))
  gather-end e = gathering-end L s r h l m ns₀ ns at p n it.at u.here (rw (← u.over.end) e)

  module _ (it' : Fields) (f : Option Field) (x : Goes it it' f) where
    pub gather-noted : n < length ns
    gather-noted = gathering-noted L s r h l m ns₀ ns at p n it.at u.here (over-before u.over it' f x)

    pub gather-fits : Fits w64 (n + 1)
    gather-fits = reached-fits r h n it.at u.here.reached (over-before u.over it' f x)

    pub gather-cut : f ≡ None → Gathers (made_at L s r h) (bytes_most (length r)) (gathered_by L s r h) at l m ns (Ok (tally n p))
    gather-cut = gathering-cut L s r h l m ns₀ ns at p n it.at u.here (over-before u.over it' f x) f (over-read u.over it' f x)

    module _ (w : Field) (g : f ≡ Some w) where
      pub gather-settleable : Started s r h → Roomy at (length r) r → Settleable s r h n w.from w.to p
      gather-settleable =
          gathering-settleable L s r h l m ns₀ ns at p n it.at u.here (over-before u.over it' f x) f (over-read u.over it' f x) w g

      module _ (m' : List ℕ) (y : Result Settling Cause)
          (b : Emits (settling_of n (note_in (settled_at L s r h w.from w.to))) (others_of (settled_at L s r h w.from w.to))
          (bytes_most (w.to - w.from)) m p m' y) where
        pub gather-refused : (stop : Cause) → y ≡ Err stop
            → Gathers (made_at L s r h) (bytes_most (length r)) (gathered_by L s r h) at l m' ns (Err stop)
        gather-refused =
            gathering-refused L s r h l m ns₀ ns at p n it.at u.here (over-before u.over it' f x) f (over-read u.over it' f x) w g m' y b

        pub gather-next : (t : Settling) → y ≡ Ok t → (ns' : List ℕ) → ns' ≡ noted n t.note ns
            → GatheringIn L s r h l m' ns₀ ns' at t.next (n + 1) it'
        gather-next t e ns' j = record {
          over = over-next u.over it' f x;
          here = rw (over-at u.over it' f x w g)
              (gathering-next L s r h l m ns₀ ns at p n it.at u.here (over-before u.over it' f x) f (over-read u.over it' f x) w g m' y b t e
              ns' j);
        }

pub ruleset gather_laws = (
  gather-start,
  gather-length,
  gather-after,
  gather-notes,
  gather-end,
  gather-noted,
  gather-fits,
  gather-cut,
  gather-settleable,
  gather-refused,
  gather-next,
)
