-- Every other call is refused nowhere, if it is.
-- Assumes nothing.
use Rattle.std.specs.Prelude.{◌≡◌, refl, Bool, List, [], ◌∷◌, map, ℕ, suc, ◌%◌, eqb, ltb, length, None, Some, Err, ℤ, Ok, Option, Result}
use lib.IntN.{ℤ}
use Rattle.limits.specs.Figures.{most_words}
use Rattle.reply.specs.declared.Refusal.TheVariants.{BadRequest, BeyondLimit, RangeEnd}
use Rattle.reply.specs.Verdicts.{first_fault, asked, answer_for, Verdict}
use Rattle.reply.specs.Outcome.{Outcome, refused, nothing, give}
use Rattle.sheetform.specs.Form.{judge_sheet}
use Rattle.lookups.specs.Lookups.{walking}
use Rattle.entries.specs.Tree.{rows, words_of as row_words}
use Rattle.entries.specs.Reading.{Under, under, refused_by, records_of}
use Rattle.find.specs.Find.{words_of, worded, finding, find_words}
use Rattle.listing.specs.Listing.{judge_inputs, listed, listing_by, listing}
use Rattle.payload.specs.Payload.{judge_payload, payload_answer}
use Rattle.ranges.specs.Ranges.{enum_reserved, end_of, with_end, pairs, lower_ranges}
use Rattle.oneofs.specs.Fields.{lower_fields, real, synthetic, oneof, Group, joining, groups_after, groups, real_count}
use Rattle.oneofs.specs.Fields.{declared, synthetic_last, word_of, numbered, lower_fields_by}
use Rattle.oneofs.proofs.Theorems.{declared_same}
use Rattle.evolution.specs.Calls.{clean_answer, contained_answer}
use Rattle.places.specs.Places.{Bare, Neither}
use Rattle.places.proofs.BareLaws.{bare-refuse, bare-nothing, bare-give, bare-push, bare-unless, bare-either}
use Rattle.reply.specs.declared.Refusal.{Refusal}
use Rattle.search.specs.declared.extension.Found.{Found}

-- ---- find
worded-bare : (x : Result Found Refusal) → Bare (worded x)
worded-bare (Ok f) = bare-give (words_of f)
worded-bare (Err w) = bare-refuse w

pub find-bare : (s c p : List ℕ) → Bare (find_words s c p)
unfolding find_words
find-bare s c p = worded-bare (finding s c p)

-- ---- listing
listed-bare : (u : Under) → Bare (listed u)
listed-bare (under m t) = bare-give (row_words (rows 0 t))
listed-bare (refused_by w) = bare-refuse w

pub list-bare : (s type bs : List ℕ) → Bare (listing s type bs)
unfolding listing_by
list-bare s type bs = bare-unless (judge_inputs (judge_sheet s) type bs) _ (listed-bare (records_of (walking s) s type bs))

-- ---- the lowerings
end-bare : (s : ℤ) (x : Option ℤ) (o : Outcome ℤ) → Bare o → Bare (with_end s x o)
end-bare s (Some e) o h = bare-push (s ∷ e ∷ []) o h
end-bare s None o h = bare-refuse RangeEnd

pairs-bare : (k : ℕ) (ws : List ℤ) → Bare (pairs k ws)
unfolding pairs
pairs-bare k [] = bare-give []
pairs-bare k (s ∷ []) = bare-refuse BadRequest
pairs-bare k (s ∷ e ∷ ws) = end-bare s (end_of k e) (pairs k ws) (pairs-bare k ws)

pub ranges-bare : (k : ℕ) (ws : List ℤ) → Bare (lower_ranges k ws)
unfolding lower_ranges
ranges-bare k ws =
    bare-either (ltb enum_reserved k) (bare-refuse BadRequest)
    (bare-either (ltb most_words (length ws)) (bare-refuse BeyondLimit)
    (bare-either (eqb (length ws % 2) 1) (bare-refuse BadRequest) (pairs-bare k ws)))

joining-bare : (member : Group) (o : Outcome Group) → Bare o → Bare (joining member o)
joining-bare None o h = bare-refuse BadRequest
joining-bare (Some x) o h = bare-push (Some x ∷ []) o h

groups-bare : (r s : ℕ) (member : Group) (ws : List ℕ) → Bare (groups_after r s member ws)
unfolding groups_after
groups-bare r s member [] = bare-give []
groups-bare r s member (w ∷ ws) =
    let x = Some (oneof synthetic r s) in
    let y = Some (oneof real r s) in
    bare-either (eqb w 0) (bare-push (None ∷ []) (groups_after r s None ws) (groups-bare r s None ws))
    (bare-either (eqb w 1) (bare-push (x ∷ []) (groups_after r (suc s) None ws) (groups-bare r (suc s) None ws))
    (bare-either (eqb w 2) (groups-bare (suc r) s y ws)
    (bare-either (eqb w 3) (joining-bare member (groups_after r s member ws) (groups-bare r s member ws)) (bare-refuse BadRequest))))

numbered-bare : (numbering reals : ℕ) (o : Outcome Group) → Bare o → Bare (numbered numbering reals o)
numbered-bare numbering reals (refused w) h c e = let y : w ≡ c = cc in rw (← y) (h w refl)
numbered-bare numbering reals nothing h c e = bare-nothing c e
numbered-bare numbering reals (give gs) h c e = bare-give (map (word_of numbering reals) gs) c e

pub fields-by-bare : (numbering : ℕ) (ws : List ℕ) → Bare (lower_fields_by numbering ws)
unfolding lower_fields_by
fields-by-bare numbering ws =
    bare-either (ltb synthetic_last numbering) (bare-refuse BadRequest)
    (bare-either (ltb most_words (length ws)) (bare-refuse BeyondLimit)
    (numbered-bare numbering (real_count ws) (groups ws) (groups-bare 0 0 None ws)))

pub fields-bare : (ws : List ℕ) → Bare (lower_fields ws)
fields-bare ws = rw (← (declared_same ws)) (fields-by-bare declared ws)

-- ---- the calls that lend no memory
asked-neither : (v : Verdict) (b : Bool) → Neither (asked v b)
asked-neither (Ok _) b = (refl, refl)
asked-neither (Err w) b = (refl, refl)

pub clean-neither : (s : List ℕ) → Neither (clean_answer s)
clean-neither s = asked-neither (judge_sheet s) _

pub contained-neither : (s t : List ℕ) → Neither (contained_answer s t)
contained-neither s t = asked-neither (first_fault (judge_sheet s) (judge_sheet t)) _

for-neither : (n : ℕ) (v : Verdict) → Neither (answer_for n v)
for-neither n (Ok _) = (refl, refl)
for-neither n (Err w) = (refl, refl)

pub payload-neither : (bs : List ℕ) (at n : ℕ) → Neither (payload_answer bs at n)
unfolding payload_answer
payload-neither bs at n = for-neither n (judge_payload bs at n)
