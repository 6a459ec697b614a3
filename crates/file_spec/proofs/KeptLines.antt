-- What a conference keeps, line by line.
use Rattle.std.proofs.Common.{◌≡◌, ℕ, zero, suc, ◌<◌, ◌≤◌, Bool, true, false, Option, Some, None, List, [], ◌∷◌, length, get_or, refl, ap, subst, sym, ◌∙◌, arith}
use Rattle.std.specs.Prelude.{◌≢◌, IsTrue, ◌==◌, not, nat_le, if◌then◌else◌, unwrap_or, Ok, Err, is_some, codes, bytes_eq, All}
use Rattle.std.specs.List.{list_any, position}
use Rattle.std.specs.Option.{ForSome, ok_or}
use Rattle.std.proofs.lemmas.Bool.{true≢false, and_parts, or_parts, eq-eqb, not-false, leb-false, ltb-false}
use Rattle.std.proofs.lemmas.List.{length_push}
use Rattle.std.proofs.lemmas.List.Elements.{All-nil, All-push}
use Rattle.std.proofs.lemmas.List.Folds.{list_any_at}
use Rattle.std.proofs.lemmas.List.Quantifiers.{all_pairs_push, position-Some}
use Rattle.std.proofs.lemmas.Slice.Eq.{bytes_eq-Decides}
use Rattle.rtt_base.specs.declared.text_packets.PayloadTypes.{PayloadTypes}
use Rattle.file_spec.specs.declared.limits.TheConstants.{FEWEST_LEGS, MOST_LEGS, LEAST_TICK, MOST_TICK, USUAL_TICK, LEAST_SPACING, MOST_SPACING, USUAL_SPACING, LEAST_RELABEL, MOST_RELABEL, LEAST_MTU, MOST_MTU, LEAST_GONE, MOST_GONE, MOST_TURNS, MOST_GENERATIONS, USUAL_GENERATIONS, MOST_PLAN_LINES, LONGEST_DELAY, FIRST_TYPE, LAST_TYPE, LAST_MOMENT}
use Rattle.file_spec.specs.declared.kinds.ConfKind.TheVariants.{Word, Name, Number, Many, PlanMany, Twice, Clash}
use Rattle.file_spec.specs.declared.conference_lines.Form.{Form}
use Rattle.file_spec.specs.declared.conference_lines.Form.TheVariants.{Files, Links}
use Rattle.file_spec.specs.declared.conference_lines.MixerLine.{MixerLine}
use Rattle.file_spec.specs.declared.conference_lines.Stay.{Stay}
use Rattle.file_spec.specs.declared.conference_lines.GenerationsLine.{GenerationsLine}
use Rattle.file_spec.specs.declared.conference_lines.StayLine.{StayLine}
use Rattle.file_spec.specs.declared.conference_lines.LegLine.{LegLine}
use Rattle.file_spec.specs.declared.conference_lines.PlanLine.{PlanLine}
use Rattle.file_spec.specs.declared.conference_lines.What.{What}
use Rattle.file_spec.specs.declared.conference_lines.What.TheVariants as what
use Rattle.file_spec.specs.declared.services.OperatorLine.{OperatorLine}
use Rattle.file_spec.specs.declared.services.Service.{Service}
use Rattle.file_spec.specs.declared.services.ServiceLine.{ServiceLine}
use Rattle.file_spec.specs.declared.services.ServiceLine.TheVariants as service
use Rattle.rtt_base.specs.Steps.{◌>>=◌}
use Rattle.file_spec.specs.Steps.{unless}
use Rattle.file_spec.specs.Lines.{Line}
use Rattle.file_spec.specs.Numbers.{number, most_ssrc, number_between, payload_type, payload_types}
use Rattle.file_spec.specs.Stays.{IsStay, is_crowd}
use Rattle.file_spec.specs.Conference.{Above, Conference, Entry, Leg, Generations, Stays, Tick, Spacing, Wait, Turns, Relabel, Mtu, Mixer, Plan, Follows, Longs, Serves, nothing, with_entry, change_leg, with_generations, with_stay, with_follow, with_long, setting, mixer, mixer_of, is_mixers, is_name, has_names, has_port, shares_own, shares_path, clashes, most_legs, new_leg, aware_of, whole_stay, usual_types, leg_of, leg, place_of, generations_of, generations, stay_of, stay, is_same_packet, plan_of, plan, delay_of, delay, plan_word, counts, service_word, operator, port, is_same_port, is_operators, and_line, whole, conference_from, prefix, is_path}
use Rattle.file_spec.specs.Sound.{IsBetween}
use Rattle.file_spec.specs.Services.{with_service}
use Rattle.file_spec.specs.Kept.{IsLeg, Differ, AreLegs, IsMixerFor, IsShort, IsTick, IsSpacing, IsWait, AreTurns, IsRelabel, IsMtu, IsGone, IsOperatorFor, IsServiceFor, Keeps, IsConference}
use Rattle.file_spec.proofs.Crowds.{crowds_seen}
use Rattle.rtt_base.proofs.Steps.{bind_ok}
use Rattle.file_spec.proofs.Passed.{unless_ok, ok_or_ok, then_some, number_most, number_in}
use Rattle.rtt_base.specs.declared.limits.TheConstants.{LONGEST_WAIT, USUAL_WAIT}
use Rattle.file_spec.proofs.EachLine.{HoldsOf, entry_holds, service_holds, line_adds, lines_of, completed, leg_read, mixer_read, operator_read}
use Rattle.std.proofs.lemmas.Option.{same_Some as some_same}

-- ---- what a line adds
record IsNewLeg (above : Above) (l : LegLine) : Type 0 where
  room : length above.legs < MOST_LEGS
  leg : IsLeg l
  differ : All (λ a. Differ a l) above.legs
  mixer : ForSome above.mixer (λ m. l.ssrc ≢ m.ssrc)
  operator : ForSome above.service.operator (λ o. port l.input ≢ Some o.port)

record IsNewPlan (above : Above) (p : PlanLine) : Type 0 where
  room : length above.plan < MOST_PLAN_LINES
  terminal : p.terminal < length above.legs
  delay : IsShort p.what
  others : All (λ a. is_same_packet a p ≡ false) above.plan

abbrev IsNewService : Above → ServiceLine → Type 0
IsNewService above (service.Gone n) = IsGone n
IsNewService above (service.Operator o) = IsOperatorFor above.legs o
IsNewService above (service.Record p) = IsTrue (is_path p)
IsNewService above service.Counts = Unit {0}

abbrev IsNew : Above → Entry → Type 0
IsNew above (Leg l) = IsNewLeg above l
IsNew above (Generations g) = g.generations ≤ MOST_GENERATIONS
IsNew above (Stays s) = IsStay s.stay
IsNew above (Tick n) = IsTick n
IsNew above (Spacing n) = IsSpacing n
IsNew above (Wait n) = IsWait n
IsNew above (Turns n) = AreTurns n
IsNew above (Relabel n) = IsRelabel n
IsNew above (Mtu n) = IsMtu n
IsNew above (Mixer m) = IsMixerFor above.legs m
IsNew above (Plan p) = IsNewPlan above p
IsNew above (Follows k) = Unit {0}
IsNew above (Longs k) = Unit {0}
IsNew above (Serves s) = IsNewService above s

leg_more : (above : Above) (l : LegLine) → Keeps above → IsNewLeg above l → Keeps (with_entry above (Leg l))
leg_more above l k new = record {
  legs = record {
    most = let r = new.room in omega (arith, length_push above.legs l);
    each = All-push (λ a. IsLeg a) above.legs l k.legs.each new.leg;
    differ = all_pairs_push (λ a b. Differ a b) above.legs l k.legs.differ new.differ;
  };
  tick = k.tick;
  spacing = k.spacing;
  wait = k.wait;
  turns = k.turns;
  relabel = k.relabel;
  mtu = k.mtu;
  mixer = λ m e. record { seq = (k.mixer m e).seq; differs = All-push (λ a. a.ssrc ≢ m.ssrc) above.legs l (k.mixer m e).differs (new.mixer m e) };
  plan = record {
    most = k.plan.most;
    terminals = λ i d h. let t = k.plan.terminals i d h in omega (arith, length_push above.legs l);
    delays = k.plan.delays;
    differ = k.plan.differ;
  };
  service = record {
    gone = k.service.gone;
    operator = λ o e. let was = k.service.operator o e in record { at = was.at; word = was.word; differs = All-push (λ a. port a.input ≢ Some o.port) above.legs l was.differs (new.operator o e) };
    recorded = k.service.recorded;
  };
}

plan_more : (above : Above) (p : PlanLine) → Keeps above → IsNewPlan above p → Keeps (with_entry above (Plan p))
plan_more above p k new = record {
  legs = k.legs;
  tick = k.tick;
  spacing = k.spacing;
  wait = k.wait;
  turns = k.turns;
  relabel = k.relabel;
  mtu = k.mtu;
  mixer = k.mixer;
  plan = record {
    most = let r = new.room in omega (arith, length_push above.plan p);
    terminals = All-push (λ a. a.terminal < length above.legs) above.plan p k.plan.terminals new.terminal;
    delays = All-push (λ a. IsShort a.what) above.plan p k.plan.delays new.delay;
    differ = all_pairs_push (λ a b. is_same_packet a b ≡ false) above.plan p k.plan.differ new.others;
  };
  service = k.service;
}

service_more : (above : Above) (s : ServiceLine) → Keeps above → IsNewService above s → IsServiceFor above.legs (with_service above.service s)
service_more above (service.Gone n) k new = record { gone = λ m e. subst IsGone (some_same n m e) new; operator = k.service.operator; recorded = k.service.recorded }
service_more above (service.Operator x) k new = record { gone = k.service.gone; operator = λ o e. subst (IsOperatorFor above.legs) (some_same x o e) new; recorded = k.service.recorded }
service_more above (service.Record x) k new = record { gone = k.service.gone; operator = k.service.operator; recorded = λ p e. subst (λ (text : List ℕ). IsTrue (is_path text)) (some_same x p e) new }
service_more above service.Counts k new = record { gone = k.service.gone; operator = k.service.operator; recorded = k.service.recorded }

-- ---- a leg that is changed
-- what is said of a leg leaves what it is known by
record Leaves (change : LegLine → LegLine) : Type 0 where
  name : (l : LegLine) → (change l).name ≡ l.name
  ssrc : (l : LegLine) → (change l).ssrc ≡ l.ssrc
  input : (l : LegLine) → (change l).input ≡ l.input
  output : (l : LegLine) → (change l).output ≡ l.output
  leg : (l : LegLine) → IsLeg l → IsLeg (change l)

pub length-change : (change : LegLine → LegLine) (k : ℕ) (ls : List LegLine) → length (change_leg change k ls) ≡ length ls
length-change change k [] = refl
length-change change zero (l ∷ ls) = refl
length-change change (suc k) (l ∷ ls) = ap suc (length-change change k ls)

part_at : {A : Type 0} (change : LegLine → LegLine) (part : LegLine → A) → ((l : LegLine) → part (change l) ≡ part l)
    → (ls : List LegLine) (k i : ℕ) (d : LegLine) → part (get_or (change_leg change k ls) i d) ≡ part (get_or ls i d)
part_at change part same [] k i d = refl
part_at change part same (l ∷ ls) zero zero d = same l
part_at change part same (l ∷ ls) zero (suc i) d = refl
part_at change part same (l ∷ ls) (suc k) zero d = refl
part_at change part same (l ∷ ls) (suc k) (suc i) d = part_at change part same ls k i d

changed_at : (change : LegLine → LegLine) (P : LegLine → Type 0) → ((l : LegLine) → P l → P (change l))
    → (ls : List LegLine) (k i : ℕ) (d : LegLine) → P (get_or ls i d) → P (get_or (change_leg change k ls) i d)
changed_at change P keeps [] k i d h = h
changed_at change P keeps (l ∷ ls) zero zero d h = keeps l h
changed_at change P keeps (l ∷ ls) zero (suc i) d h = h
changed_at change P keeps (l ∷ ls) (suc k) zero d h = h
changed_at change P keeps (l ∷ ls) (suc k) (suc i) d h = changed_at change P keeps ls k i d h

changed_pair : (change : LegLine → LegLine) → Leaves change → (ls : List LegLine) (k i j : ℕ) (d : LegLine) → Differ (get_or ls i d) (get_or ls j d)
    → Differ (get_or (change_leg change k ls) i d) (get_or (change_leg change k ls) j d)
changed_pair change leaves ls k i j d differ = record {
  names = λ e. differ.names (sym (part_at change (λ l. l.name) leaves.name ls k i d) ∙ (e ∙ part_at change (λ l. l.name) leaves.name ls k j d));
  ssrcs = λ e. differ.ssrcs (sym (part_at change (λ l. l.ssrc) leaves.ssrc ls k i d) ∙ (e ∙ part_at change (λ l. l.ssrc) leaves.ssrc ls k j d));
  outputs = λ e. differ.outputs (sym (part_at change (λ l. l.output) leaves.output ls k i d) ∙ (e ∙ part_at change (λ l. l.output) leaves.output ls k j d));
}

shorter : (change : LegLine → LegLine) (k : ℕ) (ls : List LegLine) (i : ℕ) → i < length (change_leg change k ls) → i < length ls
shorter change k ls i h = subst (λ n. i < n) (length-change change k ls) h

changed_legs : (change : LegLine → LegLine) → Leaves change → (k : ℕ) (ls : List LegLine) → AreLegs ls → AreLegs (change_leg change k ls)
changed_legs change leaves k ls legs = record {
  most = let m = legs.most in omega (arith, length-change change k ls);
  each = λ i d h. changed_at change IsLeg leaves.leg ls k i d (legs.each i d (shorter change k ls i h));
  differ = λ i j d l h. changed_pair change leaves ls k i j d (legs.differ i j d l (shorter change k ls j h));
}

changed : (above : Above) (change : LegLine → LegLine) → Leaves change → (k : ℕ) (gs ss : List ℕ) → Keeps above → Keeps (record above { legs = change_leg change k above.legs; generations = gs; stays = ss })
changed above change leaves k gs ss kept = record {
  legs = changed_legs change leaves k above.legs kept.legs;
  tick = kept.tick;
  spacing = kept.spacing;
  wait = kept.wait;
  turns = kept.turns;
  relabel = kept.relabel;
  mtu = kept.mtu;
  mixer = λ m e. record {
    seq = (kept.mixer m e).seq;
    differs = λ i d h. changed_at change (λ l. l.ssrc ≢ m.ssrc) (λ l f q. f (sym (leaves.ssrc l) ∙ q)) above.legs k i d ((kept.mixer m e).differs i d (shorter change k above.legs i h));
  };
  plan = record {
    most = kept.plan.most;
    terminals = λ i d h. let t = kept.plan.terminals i d h in omega (arith, length-change change k above.legs);
    delays = kept.plan.delays;
    differ = kept.plan.differ;
  };
  service = record {
    gone = kept.service.gone;
    operator = λ o e. let was = kept.service.operator o e in record {
      at = was.at;
      word = was.word;
      differs = λ i d h. changed_at change (λ l. port l.input ≢ Some o.port) (λ l f q. f (ap port (sym (leaves.input l)) ∙ q)) above.legs k i d (was.differs i d (shorter change k above.legs i h));
    };
    recorded = kept.service.recorded;
  };
}

generations_leave : (n : ℕ) → n ≤ MOST_GENERATIONS → Leaves (with_generations n)
generations_leave n few = record { name = λ l. refl; ssrc = λ l. refl; input = λ l. refl; output = λ l. refl; leg = λ l is. record { name = is.name; types = is.types; generations = few; stay = is.stay } }

stay_leaves : (s : Stay) → IsStay s → Leaves (with_stay s)
stay_leaves s stays = record { name = λ l. refl; ssrc = λ l. refl; input = λ l. refl; output = λ l. refl; leg = λ l is. record { name = is.name; types = is.types; generations = is.generations; stay = stays } }

follow_leaves : Leaves with_follow
follow_leaves = record { name = λ l. refl; ssrc = λ l. refl; input = λ l. refl; output = λ l. refl; leg = λ l is. record { name = is.name; types = is.types; generations = is.generations; stay = is.stay } }

long_leaves : Leaves with_long
long_leaves = record { name = λ l. refl; ssrc = λ l. refl; input = λ l. refl; output = λ l. refl; leg = λ l is. record { name = is.name; types = is.types; generations = is.generations; stay = is.stay } }

more : (above : Above) (said : Entry) → Keeps above → IsNew above said → Keeps (with_entry above said)
more above (Leg l) k new = leg_more above l k new
more above (Generations g) k new = changed above (with_generations g.generations) (generations_leave g.generations new) g.leg _ above.stays k
more above (Stays s) k new = changed above (with_stay s.stay) (stay_leaves s.stay new) s.leg above.generations _ k
more above (Tick n) k new = record { legs = k.legs; tick = λ m e. subst IsTick (some_same n m e) new; spacing = k.spacing; wait = k.wait; turns = k.turns; relabel = k.relabel; mtu = k.mtu; mixer = k.mixer; plan = k.plan; service = k.service }
more above (Spacing n) k new = record { legs = k.legs; tick = k.tick; spacing = λ m e. subst IsSpacing (some_same n m e) new; wait = k.wait; turns = k.turns; relabel = k.relabel; mtu = k.mtu; mixer = k.mixer; plan = k.plan; service = k.service }
more above (Wait n) k new = record { legs = k.legs; tick = k.tick; spacing = k.spacing; wait = λ m e. subst IsWait (some_same n m e) new; turns = k.turns; relabel = k.relabel; mtu = k.mtu; mixer = k.mixer; plan = k.plan; service = k.service }
more above (Turns n) k new = record { legs = k.legs; tick = k.tick; spacing = k.spacing; wait = k.wait; turns = λ m e. subst AreTurns (some_same n m e) new; relabel = k.relabel; mtu = k.mtu; mixer = k.mixer; plan = k.plan; service = k.service }
more above (Relabel n) k new = record { legs = k.legs; tick = k.tick; spacing = k.spacing; wait = k.wait; turns = k.turns; relabel = λ m e. subst IsRelabel (some_same n m e) new; mtu = k.mtu; mixer = k.mixer; plan = k.plan; service = k.service }
more above (Mtu n) k new = record { legs = k.legs; tick = k.tick; spacing = k.spacing; wait = k.wait; turns = k.turns; relabel = k.relabel; mtu = λ m e. subst IsMtu (some_same n m e) new; mixer = k.mixer; plan = k.plan; service = k.service }
more above (Mixer x) k new = record { legs = k.legs; tick = k.tick; spacing = k.spacing; wait = k.wait; turns = k.turns; relabel = k.relabel; mtu = k.mtu; mixer = λ m e. subst (IsMixerFor above.legs) (some_same x m e) new; plan = k.plan; service = k.service }
more above (Plan p) k new = plan_more above p k new
more above (Follows n) k new = changed above with_follow follow_leaves n above.generations above.stays k
more above (Longs n) k new = changed above with_long long_leaves n above.generations above.stays k
more above (Serves s) k new = record { legs = k.legs; tick = k.tick; spacing = k.spacing; wait = k.wait; turns = k.turns; relabel = k.relabel; mtu = k.mtu; mixer = k.mixer; plan = k.plan; service = service_more above s k new }

-- ---- tests of the lines above
none_passes : {A : Type 0} (test : A → Bool) (xs : List A) → list_any test xs ≡ false → All (λ x. test x ≡ false) xs
none_passes test xs e i d h = go (test (get_or xs i d)) refl
  where
    go : (b : Bool) → test (get_or xs i d) ≡ b → b ≡ false
    go true q = absurd (true≢false (sym (list_any_at test xs i d h q) ∙ e))
    go false q = refl

no_number : (a b : ℕ) → (a == b) ≡ false → a ≢ b
no_number a b e same = true≢false (sym (eq-eqb a b same) ∙ e)

no_text : (a b : List ℕ) → bytes_eq a b ≡ false → a ≢ b
no_text a b e same = true≢false (sym ((bytes_eq-Decides a b).1 same) ∙ e)

no_ssrc : (legs : List LegLine) (n : ℕ) → list_any (λ a. a.ssrc == n) legs ≡ false → All (λ a. a.ssrc ≢ n) legs
no_ssrc legs n e i d h = no_number (get_or legs i d).ssrc n (none_passes (λ a. a.ssrc == n) legs e i d h)

no_name : (legs : List LegLine) (text : List ℕ) → list_any (λ a. bytes_eq a.name text) legs ≡ false → All (λ a. a.name ≢ text) legs
no_name legs text e i d h = no_text (get_or legs i d).name text (none_passes (λ a. bytes_eq a.name text) legs e i d h)

other_output : (form : Form) (a l : LegLine) → shares_path form a l ≡ false → a.output ≢ l.output
other_output Files a l e = no_text a.output l.output (or_parts (bytes_eq a.output l.output) _ e).0
other_output Links a l e = no_text a.output l.output (or_parts (bytes_eq a.output l.output) _ e).0

no_mixer : (o : Option MixerLine) (n : ℕ) → is_mixers o n ≡ false → ForSome o (λ m. n ≢ m.ssrc)
no_mixer None n e m q same = absurd (cc q)
no_mixer (Some x) n e m q same = true≢false (sym (eq-eqb x.ssrc n (ap (λ (y : MixerLine). y.ssrc) (some_same x m q) ∙ sym same)) ∙ e)

same_port : (a b : Option ℕ) (n : ℕ) → is_same_port a b ≡ false → a ≡ Some n → b ≢ Some n
same_port a b n e here there = true≢false (sym (rw (here, there) (eq-eqb n n refl)) ∙ e)

no_operator : (o : Option OperatorLine) (at : Option ℕ) → is_operators o at ≡ false → ForSome o (λ l. at ≢ Some l.port)
no_operator None at e l q = absurd (cc q)
no_operator (Some x) at e l q = same_port (Some x.port) at l.port e (ap (λ (y : OperatorLine). Some y.port) (some_same x l q))

-- ---- legs
named : (form : Form) (name input output : List ℕ) → has_names form name input output ≡ true → is_name name ≡ true
named Files name input output e = (and_parts (is_name name) _ e).0
named Links name input output e = (and_parts (is_name name) _ e).0

own_types : (form : Form) (l : LegLine) → shares_own form l ≡ false → l.payload_types.t140 ≢ l.payload_types.red
own_types Files l e = no_number l.payload_types.t140 l.payload_types.red (or_parts (l.payload_types.t140 == l.payload_types.red) (bytes_eq l.output l.input) e).0
own_types Links l e = no_number l.payload_types.t140 l.payload_types.red e

most_is : (form : Form) (n : ℕ) → n < most_legs form → n < MOST_LEGS
most_is Files n h = h
most_is Links n h = omega arith

-- two dynamic types, which may still be the same
record AreDynamic (types : PayloadTypes) : Type 0 where
  t140 : IsBetween FIRST_TYPE LAST_TYPE types.t140
  red : IsBetween FIRST_TYPE LAST_TYPE types.red

-- what the tests of the words alone have let through
record IsWorded (l : LegLine) : Type 0 where
  name : is_name l.name ≡ true
  types : AreDynamic l.payload_types
  generations : l.generations ≤ MOST_GENERATIONS
  stay : IsStay l.stay

-- what `new_leg` has let through
new_ok : (form : Form) (above : Above) (l x : LegLine) → IsWorded l → new_leg form above l ≡ Ok x → IsNewLeg above x
new_ok form above l x worded e =
    let a = bind_ok (unless (nat_le (most_legs form) (length above.legs)) Many l >>= unless (list_any (λ a. bytes_eq a.name l.name) above.legs) Twice) (unless (clashes form above l) Clash) x e in
    let b = bind_ok (unless (nat_le (most_legs form) (length above.legs)) Many l) (unless (list_any (λ a. bytes_eq a.name l.name) above.legs) Twice) a.0 a.1 in
    let c = unless_ok (nat_le (most_legs form) (length above.legs)) Many l b.0 b.1 in
    let d = unless_ok (list_any (λ a. bytes_eq a.name l.name) above.legs) Twice b.0 a.0 b.2 in
    let f = unless_ok (clashes form above l) Clash a.0 x a.2 in
    let p = or_parts (list_any (λ a. a.ssrc == l.ssrc) above.legs) _ f.0 in
    let q = or_parts (is_mixers above.mixer l.ssrc) _ p.1 in
    let r = or_parts (shares_own form l) _ q.1 in
    let s = or_parts (list_any (λ a. shares_path form a l) above.legs) _ r.1 in
    subst (IsNewLeg above) (c.1 ∙ (d.1 ∙ f.1)) (record {
      room = most_is form (length above.legs) (leb-false (most_legs form) (length above.legs) c.0);
      leg = record {
        name = worded.name;
        types = record { t140 = worded.types.t140; red = worded.types.red; differ = own_types form l r.0 };
        generations = worded.generations;
        stay = worded.stay;
      };
      differ = λ i dd h. record {
        names = no_text (get_or above.legs i dd).name l.name (none_passes (λ a. bytes_eq a.name l.name) above.legs d.0 i dd h);
        ssrcs = no_ssrc above.legs l.ssrc p.0 i dd h;
        outputs = other_output form (get_or above.legs i dd) l (none_passes (λ a. shares_path form a l) above.legs s.0 i dd h);
      };
      mixer = no_mixer above.mixer l.ssrc q.0;
      operator = no_operator above.service.operator (port l.input) s.1;
    })

always : IsStay whole_stay
always = record { from = omega arith; until = λ n e. absurd (cc e); some = λ n e. absurd (cc e) }

leg_of_ok : (form : Form) (above : Above) (n : ℕ) (name mode ssrc input output : List ℕ) (types : Option PayloadTypes) (x : LegLine) → ((p : PayloadTypes) → types ≡ Some p → AreDynamic p) → leg_of form above n name mode ssrc input output types ≡ Ok x → IsNewLeg above x
leg_of_ok form above n name mode ssrc input output types x dynamic e =
    let r = leg_read form above n name mode ssrc input output types x e in
    let u = unless_ok (not (has_names form name input output)) Name name r.line.name r.names in
    new_ok form above r.line x
    (record {
      name = subst (λ (text : List ℕ). is_name text ≡ true) u.1 (named form name input output (not-false (has_names form name input output) u.0));
      types = dynamic r.line.payload_types (ok_or_ok types Number r.line.payload_types r.types_are);
      generations = omega (arith, r.repeats);
      stay = subst IsStay (sym r.stays) always;
    }) r.is

usual : (p : PayloadTypes) → Some usual_types ≡ Some p → AreDynamic p
usual p e = subst AreDynamic (some_same usual_types p e) (record { t140 = record { low = omega arith; high = omega arith }; red = record { low = omega arith; high = omega arith } })

written : (t140 red : List ℕ) (p : PayloadTypes) → payload_types t140 red ≡ Some p → AreDynamic p
written t140 red p e =
    let a = then_some (payload_type t140) _ p e in
    let b = then_some (payload_type red) _ p a.2 in
    subst AreDynamic (some_same (record { t140 = a.0; red = b.0 }) p b.2) (record { t140 = number_in FIRST_TYPE LAST_TYPE t140 a.0 a.1; red = number_in FIRST_TYPE LAST_TYPE red b.0 b.1 })

leg_ok : (form : Form) (above : Above) (n : ℕ) (ws : List (List ℕ)) (x : LegLine) → leg form above n ws ≡ Ok x → IsNewLeg above x
leg_ok form above n [] x e = absurd (cc e)
leg_ok form above n (a ∷ []) x e = absurd (cc e)
leg_ok form above n (a ∷ b ∷ []) x e = absurd (cc e)
leg_ok form above n (a ∷ b ∷ c ∷ []) x e = absurd (cc e)
leg_ok form above n (a ∷ b ∷ c ∷ d ∷ []) x e = absurd (cc e)
leg_ok form above n (a ∷ b ∷ c ∷ d ∷ f ∷ []) x e = leg_of_ok form above n a b c d f (Some usual_types) x usual e
leg_ok form above n (a ∷ b ∷ c ∷ d ∷ f ∷ g ∷ []) x e = absurd (cc e)
leg_ok form above n (a ∷ b ∷ c ∷ d ∷ f ∷ g ∷ h ∷ []) x e = leg_of_ok form above n a b c d f (payload_types g h) x (written g h) e
leg_ok form above n (a ∷ b ∷ c ∷ d ∷ f ∷ g ∷ h ∷ i ∷ more) x e = absurd (cc e)

-- ---- generations and stays
generations_of_ok : (above : Above) (name count : List ℕ) (x : GenerationsLine) → generations_of above name count ≡ Ok x → x.generations ≤ MOST_GENERATIONS
unfolding generations_of
generations_of_ok above name count x e =
    let a = bind_ok (place_of above name) _ x e in
    let b = bind_ok (ok_or (number MOST_GENERATIONS count) Number) _ x a.2 in
    let u = unless_ok (list_any (λ other. other == a.0) above.generations) Twice (record { leg = a.0; generations = b.0 }) x b.2 in
    let n = number_most MOST_GENERATIONS count b.0 (ok_or_ok (number MOST_GENERATIONS count) Number b.0 b.1) in
    subst (λ (y : GenerationsLine). y.generations ≤ MOST_GENERATIONS) u.1 n

generations_ok : (above : Above) (ws : List (List ℕ)) (x : GenerationsLine) → generations above ws ≡ Ok x → x.generations ≤ MOST_GENERATIONS
generations_ok above [] x e = absurd (cc e)
generations_ok above (a ∷ []) x e = absurd (cc e)
generations_ok above (a ∷ b ∷ []) x e = generations_of_ok above a b x e
generations_ok above (a ∷ b ∷ c ∷ more) x e = absurd (cc e)

stay_of_ok : (above : Above) (name from until : List ℕ) (x : StayLine) → stay_of above name from until ≡ Ok x → IsStay x.stay
unfolding stay_of
stay_of_ok above name from until x e =
    let a = bind_ok (place_of above name) _ x e in
    let b = bind_ok (ok_or (number LAST_MOMENT from) Number) _ x a.2 in
    let c = bind_ok (ok_or (number LAST_MOMENT until) Number) _ x b.2 in
    let d = bind_ok (unless (nat_le c.0 b.0) Number (record { leg = a.0; stay = record { from = b.0; until = Some c.0 } })) _ x c.2 in
    let u = unless_ok (nat_le c.0 b.0) Number (record { leg = a.0; stay = record { from = b.0; until = Some c.0 } }) d.0 d.1 in
    let v = unless_ok (list_any (λ other. other == a.0) above.stays) Twice d.0 x d.2 in
    let comes = number_most LAST_MOMENT from b.0 (ok_or_ok (number LAST_MOMENT from) Number b.0 b.1) in
    let goes = number_most LAST_MOMENT until c.0 (ok_or_ok (number LAST_MOMENT until) Number c.0 c.1) in
    let after = leb-false c.0 b.0 u.0 in
    subst (λ (y : StayLine). IsStay y.stay) (u.1 ∙ v.1) (record {
      from = comes;
      until = λ n q. subst (λ y. y ≤ LAST_MOMENT) (some_same c.0 n q) goes;
      some = λ n q. subst (λ y. b.0 < y) (some_same c.0 n q) after;
    })

stay_ok : (above : Above) (ws : List (List ℕ)) (x : StayLine) → stay above ws ≡ Ok x → IsStay x.stay
stay_ok above [] x e = absurd (cc e)
stay_ok above (a ∷ []) x e = absurd (cc e)
stay_ok above (a ∷ b ∷ []) x e = absurd (cc e)
stay_ok above (a ∷ b ∷ c ∷ []) x e = stay_of_ok above a b c x e
stay_ok above (a ∷ b ∷ c ∷ d ∷ more) x e = absurd (cc e)

-- ---- the mixer
mixer_of_ok : (above : Above) (ssrc seq timestamp : List ℕ) (x : MixerLine) → mixer_of above ssrc seq timestamp ≡ Ok x → IsMixerFor above.legs x
mixer_of_ok above ssrc seq timestamp x e =
    let r = mixer_read above ssrc seq timestamp x e in
    let n = number_most 65535 seq x.seq (ok_or_ok (number 65535 seq) Number x.seq r.first) in
    record { seq = omega arith; differs = no_ssrc above.legs x.ssrc r.differs }

mixer_ok : (above : Above) (ws : List (List ℕ)) (x : MixerLine) → mixer above ws ≡ Ok x → IsMixerFor above.legs x
mixer_ok above [] x e = absurd (cc e)
mixer_ok above (a ∷ []) x e = absurd (cc e)
mixer_ok above (a ∷ b ∷ []) x e = absurd (cc e)
mixer_ok above (a ∷ b ∷ c ∷ []) x e = mixer_of_ok above a b c x e
mixer_ok above (a ∷ b ∷ c ∷ d ∷ more) x e = absurd (cc e)

-- ---- the plan
plan_of_ok : (above : Above) (name packet : List ℕ) (happens : Option What) (x : PlanLine) → ((w : What) → happens ≡ Some w → IsShort w) → plan_of above name packet happens ≡ Ok x → IsNewPlan above x
unfolding plan_of
plan_of_ok above name packet happens x short e =
    let a = bind_ok (place_of above name) _ x e in
    let b = bind_ok (ok_or (number 4294967295 packet) Number) _ x a.2 in
    let c = bind_ok (ok_or happens Number) _ x b.2 in
    let d = bind_ok (unless (nat_le MOST_PLAN_LINES (length above.plan)) PlanMany (record { terminal = a.0; packet = b.0; what = c.0 })) _ x c.2 in
    let u = unless_ok (nat_le MOST_PLAN_LINES (length above.plan)) PlanMany (record { terminal = a.0; packet = b.0; what = c.0 }) d.0 d.1 in
    let v = unless_ok (list_any (λ p. is_same_packet p d.0) above.plan) Twice d.0 x d.2 in
    let at = position-Some (λ leg. bytes_eq leg.name name) above.legs a.0 a_leg (ok_or_ok (position (λ leg. bytes_eq leg.name name) above.legs) Name a.0 a.1) in
    let line : PlanLine = record { terminal = a.0; packet = b.0; what = c.0 } in
    let others : All (λ q. is_same_packet q line ≡ false) above.plan = subst (λ p. All (λ q. is_same_packet q p ≡ false) above.plan) (sym u.1) (none_passes (λ q. is_same_packet q d.0) above.plan v.0) in
    subst (IsNewPlan above) (u.1 ∙ v.1) (record { room = leb-false MOST_PLAN_LINES (length above.plan) u.0; terminal = at.0; delay = short c.0 (ok_or_ok happens Number c.0 c.1); others = others })
  where
    a_leg : LegLine
    a_leg = record { line = 0; name = []; aware = false; ssrc = 0; input = []; output = []; payload_types = record { t140 = 0; red = 0 }; generations = 0; stay = whole_stay; follow = false; long = false }

plan_ok : (above : Above) (w : What) (ws : List (List ℕ)) (x : PlanLine) → IsShort w → plan above w ws ≡ Ok x → IsNewPlan above x
plan_ok above w [] x short e = absurd (cc e)
plan_ok above w (a ∷ []) x short e = absurd (cc e)
plan_ok above w (a ∷ b ∷ []) x short e = plan_of_ok above a b (Some w) x (λ v q. subst IsShort (some_same w v q) short) e
plan_ok above w (a ∷ b ∷ c ∷ more) x short e = absurd (cc e)

delay_short : (text : List ℕ) (w : What) → delay_of text ≡ Some w → IsShort w
delay_short text w e =
    let a = then_some (number LONGEST_DELAY text) (λ ms. Some (what.Delay ms)) w e in
    λ ms q. let same : a.0 ≡ ms = cc (a.2, q) in let most = number_most LONGEST_DELAY text a.0 a.1 in omega arith

delay_ok : (above : Above) (ws : List (List ℕ)) (x : PlanLine) → delay above ws ≡ Ok x → IsNewPlan above x
delay_ok above [] x e = absurd (cc e)
delay_ok above (a ∷ []) x e = absurd (cc e)
delay_ok above (a ∷ b ∷ []) x e = absurd (cc e)
delay_ok above (a ∷ b ∷ c ∷ []) x e = plan_of_ok above a b (delay_of c) x (λ w q. delay_short c w q) e
delay_ok above (a ∷ b ∷ c ∷ d ∷ more) x e = absurd (cc e)

plan_word_ok : (above : Above) (word : List ℕ) (more : List (List ℕ)) (x : PlanLine) → plan_word above word more ≡ Ok x → IsNewPlan above x
plan_word_ok above word more x e = go (bytes_eq word (codes "lose")) (bytes_eq word (codes "delay")) (bytes_eq word (codes "twice")) e
  where
    go : (a b c : Bool) → (if a then plan above what.Lose more else (if b then delay above more else (if c then plan above what.Twice more else Err Word))) ≡ Ok x → IsNewPlan above x
    go true b c e = plan_ok above what.Lose more x (λ ms q. absurd (cc q)) e
    go false true c e = delay_ok above more x e
    go false false true e = plan_ok above what.Twice more x (λ ms q. absurd (cc q)) e
    go false false false e = absurd (cc e)

-- ---- times
setting_ok : (least most : ℕ) (above : Option ℕ) (ws : List (List ℕ)) (x : ℕ) → setting least most above ws ≡ Ok x → IsBetween least most x
setting_ok least most above [] x e = absurd (cc e)
setting_ok least most above (text ∷ []) x e =
    let a = bind_ok (ok_or (number_between least most text) Number) (unless (is_some above) Twice) x e in
    let u = unless_ok (is_some above) Twice a.0 x a.2 in
    subst (IsBetween least most) u.1 (number_in least most text a.0 (ok_or_ok (number_between least most text) Number a.0 a.1))
setting_ok least most above (a ∷ b ∷ more) x e = absurd (cc e)

-- ---- what is asked beside the mixing
operator_ok : (above : Above) (ws : List (List ℕ)) (x : OperatorLine) → operator above ws ≡ Ok x → IsOperatorFor above.legs x
operator_ok above [] x e = absurd (cc e)
operator_ok above (a ∷ []) x e = absurd (cc e)
operator_ok above (a ∷ b ∷ []) x e =
    let r = operator_read above a b x e in
    record {
      at = number_in 1 65535 a x.port r.heard;
      word = r.worded;
      differs = λ i d h. same_port (Some x.port) (port (get_or above.legs i d).input) x.port (none_passes (λ l. is_same_port (Some x.port) (port l.input)) above.legs r.differs i d h) refl;
    }
operator_ok above (a ∷ b ∷ c ∷ more) x e = absurd (cc e)

prefix_ok : (above : Above) (ws : List (List ℕ)) (x : List ℕ) → prefix above ws ≡ Ok x → IsTrue (is_path x)
prefix_ok above [] x e = absurd (cc e)
prefix_ok above (a ∷ []) x e =
    let b = bind_ok (unless (not (is_path a)) Name a) (unless (is_some above.service.recorded) Twice) x e in
    let t = unless_ok (not (is_path a)) Name a b.0 b.1 in
    let u = unless_ok (is_some above.service.recorded) Twice b.0 x b.2 in
    subst (λ (text : List ℕ). IsTrue (is_path text)) (t.1 ∙ u.1) (not-false (is_path a) t.0)
prefix_ok above (a ∷ b ∷ more) x e = absurd (cc e)

service_ok : (above : Above) (word : List ℕ) (ws : List (List ℕ)) (x : ServiceLine) → service_word above word ws ≡ Ok x → IsNewService above x
service_ok above = service_holds (IsNewService above) above (record { each_gone = setting_ok LEAST_GONE MOST_GONE above.service.gone; each_operator = operator_ok above; each_record = prefix_ok above })

-- of what the line of counts keeps there is nothing
counts_ok : (above : Above) (ws : List (List ℕ)) (x : ServiceLine) → counts above ws ≡ Ok x → IsNewService above x
counts_ok above [] x e = subst (IsNewService above) (unless_ok above.service.counts Twice service.Counts x e).1 tt
counts_ok above (a ∷ more) x e = absurd (cc e)

-- ---- lines
entry_ok : (form : Form) (above : Above) (n : ℕ) → HoldsOf (IsNew above) form above n
entry_ok form above n = record {
  each_leg = leg_ok form above n;
  each_mixer = mixer_ok above;
  each_generations = generations_ok above;
  each_stay = λ q. stay_ok above;
  each_plan = λ q. plan_word_ok above;
  each_tick = setting_ok LEAST_TICK MOST_TICK above.tick;
  each_spacing = setting_ok LEAST_SPACING MOST_SPACING above.spacing;
  each_wait = λ ws x e. (setting_ok 0 LONGEST_WAIT above.wait ws x e).high;
  each_turns = setting_ok 1 MOST_TURNS above.turns;
  each_relabel = setting_ok LEAST_RELABEL MOST_RELABEL above.relabel;
  each_mtu = setting_ok LEAST_MTU MOST_MTU above.mtu;
  each_follow = λ q ws x e. tt;
  each_counts = counts_ok above;
  each_long = λ ws x e. tt;
  each_service = λ q. service_ok above;
}

pub line_keeps : (form : Form) (above later : Above) (line : Line) → and_line form above line ≡ Ok later → Keeps above → Keeps later
line_keeps form above later line e k =
    let a = line_adds form above later line e in
    subst Keeps a.3 (more above a.1 k (entry_holds (IsNew above) form above line.number (entry_ok form above line.number) a.0 a.1 a.2))

pub nothing_keeps : Keeps nothing
nothing_keeps = record {
  legs = record { most = omega arith; each = All-nil (λ a. IsLeg a); differ = λ i j d l h. absurd (omega arith) };
  tick = λ m e. absurd (cc e);
  spacing = λ m e. absurd (cc e);
  wait = λ m e. absurd (cc e);
  turns = λ m e. absurd (cc e);
  relabel = λ m e. absurd (cc e);
  mtu = λ m e. absurd (cc e);
  mixer = λ m e. absurd (cc e);
  plan = record { most = omega arith; terminals = All-nil (λ a. a.terminal < 0); delays = All-nil (λ a. IsShort a.what); differ = λ i j d l h. absurd (omega arith) };
  service = record { gone = λ m e. absurd (cc e); operator = λ m e. absurd (cc e); recorded = λ m e. absurd (cc e) };
}

-- ---- the whole
or_usual : (o : Option ℕ) (n : ℕ) (P : ℕ → Type 0) → P n → ForSome o P → P (unwrap_or o n)
or_usual None n P a f = a
or_usual (Some m) n P a f = f m refl

pub whole_keeps : (above : Above) (m : MixerLine) → Keeps above → above.mixer ≡ Some m → FEWEST_LEGS ≤ length above.legs → is_crowd above.legs ≡ false → IsConference (whole above m)
whole_keeps above m k said two room = record {
  two = two;
  legs = k.legs;
  room = crowds_seen above.legs room;
  tick = or_usual above.tick USUAL_TICK IsTick (record { low = omega arith; high = omega arith }) k.tick;
  spacing = or_usual above.spacing USUAL_SPACING IsSpacing (record { low = omega arith; high = omega arith }) k.spacing;
  wait = or_usual above.wait USUAL_WAIT IsWait (omega arith) k.wait;
  turns = or_usual above.turns MOST_TURNS AreTurns (record { low = omega arith; high = omega arith }) k.turns;
  relabel = k.relabel;
  mtu = k.mtu;
  mixer = k.mixer m said;
  plan = k.plan;
  service = k.service;
}

pub accepted_keeps : (form : Form) (octets : List ℕ) (c : Conference) → conference_from form octets ≡ Ok c → IsConference c
accepted_keeps form octets c e =
    let a = lines_of Keeps form (line_keeps form) nothing_keeps octets c e in
    let d = completed a.0 a.0.mixer c a.2 in
    subst IsConference d.4 (whole_keeps a.0 d.0 a.1 d.1 (ltb-false (length a.0.legs) FEWEST_LEGS d.2) d.3)
