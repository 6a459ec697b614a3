-- What each line of a conference keeps, the conference that is read has.
use Rattle.std.proofs.Common.{◌≡◌, ℕ, ◌+◌, Bool, true, false, Option, Some, None, List, [], ◌∷◌, length, refl, ap, subst, ◌∙◌}
use Rattle.std.specs.Prelude.{not, nat_lt, if◌then◌else◌, Result, Ok, Err, codes, bytes_eq, ◌==◌, is_some}
use Rattle.std.specs.Str.{is_utf8}
use Rattle.std.specs.Str.Lines.{lines}
use Rattle.file_spec.specs.declared.limits.TheConstants.{FEWEST_LEGS, LEAST_TICK, MOST_TICK, LEAST_SPACING, MOST_SPACING, LEAST_RELABEL, MOST_RELABEL, LEAST_MTU, MOST_MTU, LEAST_GONE, MOST_GONE, MOST_TURNS, MOST_CONFERENCE_OCTETS, USUAL_GENERATIONS}
use Rattle.file_spec.specs.declared.kinds.ConfKind.{ConfKind}
use Rattle.file_spec.specs.declared.kinds.ConfKind.TheVariants.{NotText, Few, Crowd, Large, Name, Number, Twice, Clash, Word}
use Rattle.file_spec.specs.declared.conference_lines.Form.{Form}
use Rattle.file_spec.specs.declared.conference_lines.Form.TheVariants.{Files, Links}
use Rattle.file_spec.specs.declared.conference_lines.MixerLine.{MixerLine}
use Rattle.file_spec.specs.declared.conference_lines.GenerationsLine.{GenerationsLine}
use Rattle.file_spec.specs.declared.conference_lines.StayLine.{StayLine}
use Rattle.file_spec.specs.declared.conference_lines.LegLine.{LegLine}
use Rattle.file_spec.specs.declared.conference_lines.PlanLine.{PlanLine}
use Rattle.file_spec.specs.declared.services.OperatorLine.{OperatorLine}
use Rattle.file_spec.specs.declared.services.ServiceLine.{ServiceLine}
use Rattle.file_spec.specs.declared.services.ServiceLine.TheVariants as service
use Rattle.rtt_base.specs.Steps.{◌>>=◌}
use Rattle.file_spec.specs.Steps.{unless}
use Rattle.file_spec.specs.Lines.{Line, words, told, at_line, read_lines}
use Rattle.file_spec.specs.Stays.{is_crowd}
use Rattle.file_spec.specs.Services.{is_operator_word}
use Rattle.file_spec.specs.Conference.{Above, Conference, Entry, Leg, Generations, Stays, Tick, Spacing, Wait, Turns, Relabel, Mtu, Mixer, Plan, Follows, Longs, Serves, says, time_or_other, stay_or_plan, follow_or_service, follow, long, counts, counts_or_other, of_form, service_word, operator, operator_of, prefix, port, is_same_port, nothing, with_entry, setting, mixer, leg, generations, stay, plan_word, entry, is_blank, and_line, whole, complete, conference_from, mixer_of, leg_of, new_leg, has_names, has_port, aware_of, whole_stay}
use Rattle.rtt_base.proofs.Steps.{bind_ok}
use Rattle.file_spec.proofs.Passed.{unless_ok, ok_or_ok}
use Rattle.rtt_base.specs.declared.limits.TheConstants.{LONGEST_WAIT}
use Rattle.std.specs.List.{list_any}
use Rattle.std.proofs.lemmas.Bool.{not-false}
use Rattle.std.specs.Option.{ok_or}
use Rattle.rtt_base.specs.declared.text_packets.PayloadTypes.{PayloadTypes}
use Rattle.file_spec.specs.Numbers.{number, most_ssrc}

pub at_ok : {A : Type 0} (n : ℕ) (r : Result A ConfKind) (x : A) → at_line n r ≡ Ok x → r ≡ Ok x
at_ok n (Ok y) x e = let same : y ≡ x = cc e in ap (λ z. Ok z) same
at_ok n (Err k) x e = absurd (cc e)

-- ---- the mixer and a leg
-- what a line of the mixer is read as
pub record MixerRead (above : Above) (ssrc seq : List ℕ) (x : MixerLine) : Type 0 where
  pub source : ok_or (number most_ssrc ssrc) Number ≡ Ok x.ssrc
  pub first : ok_or (number 65535 seq) Number ≡ Ok x.seq
  pub differs : list_any (λ l. l.ssrc == x.ssrc) above.legs ≡ false

pub mixer_read : (above : Above) (ssrc seq timestamp : List ℕ) (x : MixerLine) → mixer_of above ssrc seq timestamp ≡ Ok x → MixerRead above ssrc seq x
unfolding mixer_of
mixer_read above ssrc seq timestamp x e =
    let a = bind_ok (ok_or (number most_ssrc ssrc) Number) _ x e in
    let b = bind_ok (ok_or (number 65535 seq) Number) _ x a.2 in
    let c = bind_ok (ok_or (number 4294967295 timestamp) Number) _ x b.2 in
    let d = bind_ok (unless (is_some above.mixer) Twice (record { ssrc = a.0; seq = b.0; timestamp = c.0 })) _ x c.2 in
    let u = unless_ok (is_some above.mixer) Twice (record { ssrc = a.0; seq = b.0; timestamp = c.0 }) d.0 d.1 in
    let v = unless_ok (list_any (λ l. l.ssrc == a.0) above.legs) Clash d.0 x d.2 in
    subst (MixerRead above ssrc seq) (u.1 ∙ v.1) (record { source = a.1; first = b.1; differs = v.0 })

-- what a line of an operator is read as
pub record OperatorRead (above : Above) (at word : List ℕ) (x : OperatorLine) : Type 0 where
  pub heard : port at ≡ Some x.port
  pub worded : is_operator_word x.word ≡ true
  pub differs : list_any (λ l. is_same_port (Some x.port) (port l.input)) above.legs ≡ false

pub operator_read : (above : Above) (at word : List ℕ) (x : OperatorLine) → operator_of above at word ≡ Ok x → OperatorRead above at word x
unfolding operator_of
operator_read above at word x e =
    let a = bind_ok (unless (not (is_operator_word word)) Name word) _ x e in
    let b = bind_ok (ok_or (port at) Number) _ x a.2 in
    let d = bind_ok (unless (is_some above.service.operator) Twice (record { port = b.0; word = a.0 })) _ x b.2 in
    let t = unless_ok (not (is_operator_word word)) Name word a.0 a.1 in
    let u = unless_ok (is_some above.service.operator) Twice (record { port = b.0; word = a.0 }) d.0 d.1 in
    let v = unless_ok (list_any (λ l. is_same_port (Some b.0) (port l.input)) above.legs) Clash d.0 x d.2 in
    subst (OperatorRead above at word) (u.1 ∙ v.1) (record {
      heard = ok_or_ok (port at) Number b.0 b.1;
      worded = subst (λ (text : List ℕ). is_operator_word text ≡ true) t.1 (not-false (is_operator_word word) t.0);
      differs = v.0;
    })

-- what a line of a leg is read as
pub record LegRead (form : Form) (above : Above) (name ssrc input output : List ℕ) (types : Option PayloadTypes) (x : LegLine) : Type 0 where
  pub line : LegLine
  pub names : unless (not (has_names form name input output)) Name name ≡ Ok line.name
  pub source : ok_or (number most_ssrc ssrc) Number ≡ Ok line.ssrc
  pub comes : unless (not (has_port form input)) Number input ≡ Ok line.input
  pub types_are : ok_or types Number ≡ Ok line.payload_types
  pub repeats : line.generations ≡ USUAL_GENERATIONS
  pub stays : line.stay ≡ whole_stay
  pub alone : line.follow ≡ false
  pub brief : line.long ≡ false
  pub is : new_leg form above line ≡ Ok x

pub leg_read : (form : Form) (above : Above) (n : ℕ) (name mode ssrc input output : List ℕ) (types : Option PayloadTypes) (x : LegLine) → leg_of form above n name mode ssrc input output types ≡ Ok x → LegRead form above name ssrc input output types x
unfolding leg_of
leg_read form above n name mode ssrc input output types x e =
    let a = bind_ok (ok_or (aware_of mode) Word) _ x e in
    let b = bind_ok (unless (not (has_names form name input output)) Name name) _ x a.2 in
    let c = bind_ok (ok_or (number most_ssrc ssrc) Number) _ x b.2 in
    let d = bind_ok (unless (not (has_port form input)) Number input) _ x c.2 in
    let f = bind_ok (ok_or types Number) _ x d.2 in
    record {
      line = record { line = n; name = b.0; aware = a.0; ssrc = c.0; input = d.0; output = output; payload_types = f.0; generations = USUAL_GENERATIONS; stay = whole_stay; follow = false; long = false };
      names = b.1;
      source = c.1;
      comes = d.1;
      types_are = f.1;
      repeats = refl;
      stays = refl;
      alone = refl;
      brief = refl;
      is = f.2;
    }

-- ---- what is asked beside the mixing
-- this holds of whatever is asked, word by word
pub record HoldsOfService (P : ServiceLine → Type 0) (above : Above) : Type 0 where
  pub each_gone : (ws : List (List ℕ)) (x : ℕ) → setting LEAST_GONE MOST_GONE above.service.gone ws ≡ Ok x → P (service.Gone x)
  pub each_operator : (ws : List (List ℕ)) (x : OperatorLine) → operator above ws ≡ Ok x → P (service.Operator x)
  pub each_record : (ws : List (List ℕ)) (x : List ℕ) → prefix above ws ≡ Ok x → P (service.Record x)

says_holds : {A B : Type 0} (P : B → Type 0) (make : A → B) (r : Result A ConfKind) (e : B) → ((x : A) → r ≡ Ok x → P (make x)) → says make r ≡ Ok e → P e
says_holds P make (Ok x) e f q = let same : make x ≡ e = cc q in subst P same (f x refl)
says_holds P make (Err k) e f q = absurd (cc q)

pub service_holds : (P : ServiceLine → Type 0) (above : Above) → HoldsOfService P above → (word : List ℕ) (more : List (List ℕ)) (e : ServiceLine) → service_word above word more ≡ Ok e → P e
service_holds P above h word more e q = go (bytes_eq word (codes "gone")) (bytes_eq word (codes "operator")) (bytes_eq word (codes "record")) q
  where
    go : (a b c : Bool)
        → (if a then says service.Gone (setting LEAST_GONE MOST_GONE above.service.gone more) else (if b then says service.Operator (operator above more) else (if c then says service.Record (prefix above more) else Err Word))) ≡ Ok e
        → P e
    go true b c q = says_holds P service.Gone (setting LEAST_GONE MOST_GONE above.service.gone more) e (h.each_gone more) q
    go false true c q = says_holds P service.Operator (operator above more) e (h.each_operator more) q
    go false false true q = says_holds P service.Record (prefix above more) e (h.each_record more) q
    go false false false q = absurd (cc q)

-- ---- one line
-- this holds of whatever a line says, word by word
pub record HoldsOf (P : Entry → Type 0) (form : Form) (above : Above) (n : ℕ) : Type 0 where
  pub each_leg : (ws : List (List ℕ)) (x : LegLine) → leg form above n ws ≡ Ok x → P (Leg x)
  pub each_mixer : (ws : List (List ℕ)) (x : MixerLine) → mixer above ws ≡ Ok x → P (Mixer x)
  pub each_generations : (ws : List (List ℕ)) (x : GenerationsLine) → generations above ws ≡ Ok x → P (Generations x)
  pub each_stay : form ≡ Files → (ws : List (List ℕ)) (x : StayLine) → stay above ws ≡ Ok x → P (Stays x)
  pub each_plan : form ≡ Files → (word : List ℕ) (ws : List (List ℕ)) (x : PlanLine) → plan_word above word ws ≡ Ok x → P (Plan x)
  pub each_tick : (ws : List (List ℕ)) (x : ℕ) → setting LEAST_TICK MOST_TICK above.tick ws ≡ Ok x → P (Tick x)
  pub each_spacing : (ws : List (List ℕ)) (x : ℕ) → setting LEAST_SPACING MOST_SPACING above.spacing ws ≡ Ok x → P (Spacing x)
  pub each_wait : (ws : List (List ℕ)) (x : ℕ) → setting 0 LONGEST_WAIT above.wait ws ≡ Ok x → P (Wait x)
  pub each_turns : (ws : List (List ℕ)) (x : ℕ) → setting 1 MOST_TURNS above.turns ws ≡ Ok x → P (Turns x)
  pub each_follow : form ≡ Links → (ws : List (List ℕ)) (x : ℕ) → follow above ws ≡ Ok x → P (Follows x)
  pub each_service : form ≡ Links → (word : List ℕ) (ws : List (List ℕ)) (x : ServiceLine) → service_word above word ws ≡ Ok x → P (Serves x)
  pub each_counts : (ws : List (List ℕ)) (x : ServiceLine) → counts above ws ≡ Ok x → P (Serves x)
  pub each_long : (ws : List (List ℕ)) (x : ℕ) → long above ws ≡ Ok x → P (Longs x)
  pub each_relabel : (ws : List (List ℕ)) (x : ℕ) → setting LEAST_RELABEL MOST_RELABEL above.relabel ws ≡ Ok x → P (Relabel x)
  pub each_mtu : (ws : List (List ℕ)) (x : ℕ) → setting LEAST_MTU MOST_MTU above.mtu ws ≡ Ok x → P (Mtu x)

module _ (P : Entry → Type 0) (form : Form) (above : Above) (n : ℕ) (h : HoldsOf P form above n) where
  stay_or_plan_holds : form ≡ Files → (word : List ℕ) (more : List (List ℕ)) (e : Entry) → stay_or_plan above word more ≡ Ok e → P e
  unfolding stay_or_plan
  stay_or_plan_holds is word more e q = go (bytes_eq word (codes "stay")) q
    where
      go : (a : Bool) → (if a then says Stays (stay above more) else says Plan (plan_word above word more)) ≡ Ok e → P e
      go true q = says_holds P Stays (stay above more) e (h.each_stay is more) q
      go false q = says_holds P Plan (plan_word above word more) e (h.each_plan is word more) q

  follow_or_service_holds : form ≡ Links → (word : List ℕ) (more : List (List ℕ)) (e : Entry) → follow_or_service above word more ≡ Ok e → P e
  unfolding follow_or_service
  follow_or_service_holds is word more e q = go (bytes_eq word (codes "follow")) q
    where
      go : (a : Bool) → (if a then says Follows (follow above more) else says Serves (service_word above word more)) ≡ Ok e → P e
      go true q = says_holds P Follows (follow above more) e (h.each_follow is more) q
      go false q = says_holds P Serves (service_word above word more) e (h.each_service is word more) q

  form_holds : (f : Form) → form ≡ f → (word : List ℕ) (more : List (List ℕ)) (e : Entry) → of_form f above word more ≡ Ok e → P e
  form_holds Files is word more e q = stay_or_plan_holds is word more e q
  form_holds Links is word more e q = follow_or_service_holds is word more e q

  counts_holds : (word : List ℕ) (more : List (List ℕ)) (e : Entry) → counts_or_other form above word more ≡ Ok e → P e
  counts_holds word more e q = go (bytes_eq word (codes "counts")) (bytes_eq word (codes "long")) q
    where
      go : (a b : Bool) → (if a then says Serves (counts above more) else (if b then says Longs (long above more) else of_form form above word more)) ≡ Ok e → P e
      go true b q = says_holds P Serves (counts above more) e (h.each_counts more) q
      go false true q = says_holds P Longs (long above more) e (h.each_long more) q
      go false false q = form_holds form refl word more e q

  time_holds : (word : List ℕ) (more : List (List ℕ)) (e : Entry) → time_or_other form above word more ≡ Ok e → P e
  unfolding time_or_other
  time_holds word more e q = go (bytes_eq word (codes "tick")) (bytes_eq word (codes "spacing")) (bytes_eq word (codes "wait")) (bytes_eq word (codes "turns")) (bytes_eq word (codes "relabel")) (bytes_eq word (codes "mtu")) q
    where
      go : (a b c d r m : Bool)
          → (if a then says Tick (setting LEAST_TICK MOST_TICK above.tick more) else (if b then says Spacing (setting LEAST_SPACING MOST_SPACING above.spacing more) else (if c then says Wait (setting 0 LONGEST_WAIT above.wait more) else (if d then says Turns (setting 1 MOST_TURNS above.turns more) else (if r then says Relabel (setting LEAST_RELABEL MOST_RELABEL above.relabel more) else (if m then says Mtu (setting LEAST_MTU MOST_MTU above.mtu more) else counts_or_other form above word more)))))) ≡ Ok e
          → P e
      go true b c d r m q = says_holds P Tick (setting LEAST_TICK MOST_TICK above.tick more) e (h.each_tick more) q
      go false true c d r m q = says_holds P Spacing (setting LEAST_SPACING MOST_SPACING above.spacing more) e (h.each_spacing more) q
      go false false true d r m q = says_holds P Wait (setting 0 LONGEST_WAIT above.wait more) e (h.each_wait more) q
      go false false false true r m q = says_holds P Turns (setting 1 MOST_TURNS above.turns more) e (h.each_turns more) q
      go false false false false true m q = says_holds P Relabel (setting LEAST_RELABEL MOST_RELABEL above.relabel more) e (h.each_relabel more) q
      go false false false false false true q = says_holds P Mtu (setting LEAST_MTU MOST_MTU above.mtu more) e (h.each_mtu more) q
      go false false false false false false q = counts_holds word more e q

  pub entry_holds : (ws : List (List ℕ)) (e : Entry) → entry form above n ws ≡ Ok e → P e
  unfolding entry
  entry_holds [] e q = absurd (cc q)
  entry_holds (word ∷ more) e q = go (bytes_eq word (codes "leg")) (bytes_eq word (codes "mixer")) (bytes_eq word (codes "gens")) q
    where
      go : (a b c : Bool) → (if a then says Leg (leg form above n more) else (if b then says Mixer (mixer above more) else (if c then says Generations (generations above more) else time_or_other form above word more))) ≡ Ok e → P e
      go true b c q = says_holds P Leg (leg form above n more) e (h.each_leg more) q
      go false true c q = says_holds P Mixer (mixer above more) e (h.each_mixer more) q
      go false false true q = says_holds P Generations (generations above more) e (h.each_generations more) q
      go false false false q = time_holds word more e q

-- what a line says is added to what the lines above say
pub line_adds : (form : Form) (above later : Above) (line : Line) → and_line form above line ≡ Ok later → (ws : List (List ℕ)) × (e : Entry) × (entry form above line.number ws ≡ Ok e) × (with_entry above e ≡ later)
line_adds form above later line e =
    let a = bind_ok (unless (not (is_utf8 line.octets)) NotText line.octets) _ later e in
    let b = bind_ok (entry form above line.number (words a.0)) (λ said. Ok (with_entry above said)) later a.2 in
    (words a.0, b.0, b.1, cc b.2)

-- ---- all lines
lines_keep : (P : Above → Type 0) (form : Form) → ((above later : Above) (line : Line) → and_line form above line ≡ Ok later → P above → P later)
    → (above last : Above) (ls : List Line) → read_lines (and_line form) above ls ≡ Ok last → P above → P last
lines_keep P form step above last [] e k = let same : above ≡ last = cc e in subst P same k
lines_keep P form step above last (line ∷ more) e k =
    let a = bind_ok (at_line line.number (and_line form above line)) (λ said. read_lines (and_line form) said more) last e in
    lines_keep P form step a.0 last more a.2 (step above a.0 line (at_ok line.number (and_line form above line) a.0 a.1) k)

-- what the lines of a conference that is read say, of which this holds
pub lines_of : (P : Above → Type 0) (form : Form) → ((above later : Above) (line : Line) → and_line form above line ≡ Ok later → P above → P later) → P nothing
    → (octets : List ℕ) (c : Conference) → conference_from form octets ≡ Ok c → (above : Above) × P above × (complete above above.mixer ≡ Ok c)
lines_of P form step none octets c e = go (nat_lt MOST_CONFERENCE_OCTETS (length octets)) e
  where
    go : (b : Bool) → (if b then Err (record { line = 0; kind = Large }) else (read_lines (and_line form) nothing (told is_blank 1 (lines octets)) >>= λ above. at_line (length (lines octets) + 1) (complete above above.mixer))) ≡ Ok c
        → (above : Above) × P above × (complete above above.mixer ≡ Ok c)
    go true e = absurd (cc e)
    go false e =
        let a = bind_ok (read_lines (and_line form) nothing (told is_blank 1 (lines octets))) (λ above. at_line (length (lines octets) + 1) (complete above above.mixer)) c e in
        (a.0, lines_keep P form step nothing a.0 (told is_blank 1 (lines octets)) a.1 none, at_ok (length (lines octets) + 1) (complete a.0 a.0.mixer) c a.2)

-- what is complete has a mixer, legs enough and room for them
pub completed : (above : Above) (m : Option MixerLine) (c : Conference) → complete above m ≡ Ok c
    → (x : MixerLine) × (m ≡ Some x) × (nat_lt (length above.legs) FEWEST_LEGS ≡ false) × (is_crowd above.legs ≡ false) × (whole above x ≡ c)
completed above None c e = absurd (cc e)
completed above (Some m) c e =
    let a = bind_ok (unless (nat_lt (length above.legs) FEWEST_LEGS) Few (whole above m)) (unless (is_crowd above.legs) Crowd) c e in
    let u = unless_ok (nat_lt (length above.legs) FEWEST_LEGS) Few (whole above m) a.0 a.1 in
    let v = unless_ok (is_crowd above.legs) Crowd a.0 c a.2 in
    (m, refl, u.0, v.0, u.1 ∙ v.1)
