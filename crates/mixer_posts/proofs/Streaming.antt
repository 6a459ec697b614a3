-- The stream to each terminal of a conference, and its sources.
use Rattle.std.proofs.Common.{◌≡◌, ℕ, zero, suc, ◌<◌, Bool, true, false, cond, inl, inr, Option, Some, List, [], ◌∷◌, length, map, get_or, refl, ap, subst, sym, ◌∙◌, arith}
use Rattle.std.specs.Prelude.{AllPairs, IfOk, Result, Ok, Err, option_map, slice_get, slice_index}
use Rattle.std.specs.Global.{Vec}
use Rattle.std.proofs.lemmas.List.{length-map}
use Rattle.std.proofs.lemmas.Option.{slice_get_within, slice_get-map, slice_get_read, get_or_from_slice_get}
use Rattle.file_spec.specs.declared.conference_lines.LegLine.{LegLine}
use Rattle.file_spec.specs.Conference.{Conference}
use Rattle.file_spec.specs.Kept.{Differ, IsConference, IsLeg}
use Rattle.stream_spec.specs.Lists.{In}
use Rattle.mixer_spec.specs.Setups.{generations_of, leg_at, setup, ssrc_of}
use Rattle.packetizer.specs.declared.outputs.PacketizerSettings.{PacketizerSettings}
use Rattle.packetizer.specs.OutputSettings.{AreSettings}
use Rattle.packetizer.specs.Speakers.{AreDistinct}
use Rattle.mixer.specs.Making.{source_counts}
use Rattle.mixer_posts.specs.Streams.{AreSourcesAt, AreSourcesOf, settings_at, payload_types_at, payload_types_of}
use Rattle.mixer_spec.proofs.Plain.{leg_found}
use Rattle.mixer.proofs.Made.{aware_is}

-- ---- the leg
-- the stream of a leg with this line
abbrev stream_by : Conference → Option LegLine → PacketizerSettings
stream_by c o = record { ssrc = c.mixer.ssrc; seq = c.mixer.seq; timestamp = c.mixer.timestamp; payload_types = payload_types_of o; generations = generations_of o }

pub stream_is : (c : Conference) (k : ℕ) (leg : LegLine) → slice_get c.legs k ≡ Some leg → stream_by c (Some leg) ≡ settings_at (setup c) (payload_types_at c k) k
stream_is c k leg g = ap (stream_by c) (sym (leg_found c.legs k leg g))

pub stream_is_sound : (c : Conference) (k : ℕ) (leg : LegLine) → IsConference c → slice_get c.legs k ≡ Some leg → AreSettings (stream_by c (Some leg))
stream_is_sound c k leg h g =
    let is : IsLeg leg = subst (λ (l : LegLine). IsLeg l) (get_or_from_slice_get c.legs k leg leg g) (h.legs.each k leg (slice_get_within c.legs k leg g)) in
    record {
      t140 = omega (arith, is.types.t140.high);
      red = omega (arith, is.types.red.high);
      differ = is.types.differ;
      generations = is.generations;
    }

-- ---- the sources
in_ssrcs : (ls : List LegLine) (t : ℕ) → In t (map (λ l. l.ssrc) ls) → (k : ℕ) × (m : LegLine) × (k < length ls) × (get_or ls k m ≡ m) × (t ≡ m.ssrc)
in_ssrcs [] t i = absurd i
in_ssrcs (l ∷ ls) t (inl e) = (0, l, omega arith, refl, e)
in_ssrcs (l ∷ ls) t (inr i) = let r = in_ssrcs ls t i in (suc r.0, r.1, omega (arith, r.2), r.3, r.4)

pub all_distinct : (ls : List LegLine) → AllPairs (λ a b. Differ a b) ls → AreDistinct (map (λ l. l.ssrc) ls)
all_distinct [] d = tt
all_distinct (l ∷ ls) d = (
  λ t i e. let r = in_ssrcs ls t i in (subst (λ (y : LegLine). Differ l y) r.3 (d 0 (suc r.0) r.1 (omega arith) (omega (arith, r.2)))).ssrcs (e ∙ r.4),
  all_distinct ls (λ i j x a b. d (suc i) (suc j) x (omega arith) (omega arith)),
)

ssrc_there : (ls : List LegLine) (k : ℕ) → k < length ls → slice_index (map (λ l. l.ssrc) ls) k ≡ ssrc_of (leg_at ls k)
ssrc_there [] k l = absurd (omega arith)
ssrc_there (x ∷ ls) zero l = refl
ssrc_there (x ∷ ls) (suc k) l = ssrc_there ls k (omega arith)

abbrev count_by : Conference → LegLine → ℕ
count_by c leg = cond leg.aware (length c.legs) 1

-- there are as many as the mixer has for it
pub count_law : (c : Conference) (k : ℕ) (leg : LegLine) (sources : List ℕ) → slice_get c.legs k ≡ Some leg → AreSourcesAt (setup c) k sources → slice_get (source_counts c) k ≡ Some (length sources)
count_law c k leg sources g a =
    slice_get-map (count_by c) c.legs k ∙ (ap (λ (o : Option LegLine). option_map (count_by c) o) g
    ∙ ap Some (go leg.aware (subst (λ (b : Bool). AreSourcesOf b (setup c) sources) (sym (aware_is c k leg g)) a)))
  where
    go : (b : Bool) → AreSourcesOf b (setup c) sources → cond b (length c.legs) 1 ≡ length sources
    go true h = sym h.0
    go false h = sym (ap (λ (xs : List ℕ). length xs) h)

-- what is told of the sources of a terminal
pub record AreSourcesTo (c : Conference) (k : ℕ) (sources : List ℕ) : Type 0 where
  pub are : AreSourcesAt (setup c) k sources
  pub distinct : AreDistinct sources
  pub count : slice_get (source_counts c) k ≡ Some (length sources)

all_legs : (c : Conference) (k : ℕ) (leg : LegLine) → IsConference c → slice_get c.legs k ≡ Some leg → leg.aware ≡ true → AreSourcesTo c k (map (λ l. l.ssrc) c.legs)
all_legs c k leg h g e =
    let ssrcs = map (λ (l : LegLine). l.ssrc) c.legs in
    let are : AreSourcesAt (setup c) k ssrcs = subst (λ (b : Bool). AreSourcesOf b (setup c) ssrcs) (sym e ∙ aware_is c k leg g) (length-map c.legs (λ (l : LegLine). l.ssrc), λ i l. ssrc_there c.legs i l) in
    record { are = are; distinct = all_distinct c.legs h.legs.differ; count = count_law c k leg ssrcs g are }

pub mixer_alone : (c : Conference) (k : ℕ) (leg : LegLine) (sources : List ℕ) → slice_get c.legs k ≡ Some leg → leg.aware ≡ false → sources ≡ c.mixer.ssrc ∷ [] → AreSourcesTo c k sources
mixer_alone c k leg sources g e is =
    let one = c.mixer.ssrc ∷ [] in
    let are : AreSourcesAt (setup c) k one = subst (λ (b : Bool). AreSourcesOf b (setup c) one) (sym e ∙ aware_is c k leg g) refl in
    subst (λ (xs : List ℕ). AreSourcesTo c k xs) (sym is) (record { are = are; distinct = (λ t i q. absurd i, tt); count = count_law c k leg one g are })

-- ---- where they are made
-- the leg, read as the code reads it
pub leg_read : (legs xs : List LegLine) (own : ℕ) (leg : LegLine) → xs ≡ legs → own < length legs → leg ≡ get_or xs own leg → slice_get legs own ≡ Some leg
leg_read legs xs own leg same low is = slice_get_read legs (length legs) own leg refl low (is ∙ ap (λ (ls : List LegLine). get_or ls own leg) same)

pub all_made : {E : Type 0} (c : Conference) (k : ℕ) (leg : LegLine) (legs : List LegLine) (r : Result (Vec ℕ) E) → IsConference c → slice_get c.legs k ≡ Some leg → leg.aware ≡ true → legs ≡ c.legs
    → IfOk r (λ v. v.items ≡ map (λ l. l.ssrc) legs) → IfOk r (λ v. AreSourcesTo c k v.items)
all_made c k leg legs (Ok v) h g e same is = subst (λ (xs : List ℕ). AreSourcesTo c k xs) (sym (is ∙ ap (λ (ls : List LegLine). map (λ (l : LegLine). l.ssrc) ls) same)) (all_legs c k leg h g e)
all_made c k leg legs (Err x) h g e same is = tt

-- what holds of what was made, by what is told of it
pub of_made : {A E : Type 0} (P Q : A → Type 0) (r : Result A E) → ((x : A) → P x → Q x) → IfOk r P → IfOk r Q
of_made P Q (Ok x) f h = f x h
of_made P Q (Err x) f h = tt
