-- One packet more.
use Rattle.std.proofs.Common.{◌≡◌, ℕ, zero, suc, ◌+◌, ◌<◌, ◌≤◌, true, false, List, [], ◌∷◌, ◌++◌, length, Result, Ok, Err, refl, sym, subst, ◌∙◌, arith}
use Rattle.std.specs.Prelude.{◌==◌, if◌then◌else◌}
use Rattle.rtt_base.specs.Steps.{◌>>=◌}
use Rattle.wire_spec.specs.declared.events.Event.{Event}
use Rattle.wire_spec.specs.declared.rtcp_faults.RtcpRefusal.{RtcpRefusal}
use Rattle.wire_spec.specs.declared.rtcp_faults.RtcpRefusal.TheVariants.{Many}
use Rattle.wire_spec.specs.Rtcp.{Body, body_at, Told, events_of, at_most_64, packet_read, packets_within, rtcp}
use Rattle.rtcp_labels.specs.Notes.{Notes, notes, all_noted, after_all}
use Rattle.rtcp_labels.proofs.Noting.{too_many, all_fit, noted_few}

abbrev pub with_rest : List ℕ → List Event → Result Told RtcpRefusal
with_rest rest all = Ok (record { events = all; rest = rest })

pub body_refused : (past : List Event) (octets : List ℕ) (fault : RtcpRefusal) → body_at octets ≡ Err fault → packet_read past octets ≡ Err fault
unfolding packet_read
body_refused past octets fault e = rw e refl

module _ (past : List Event) (octets : List ℕ) (body : Body) (read : body_at octets ≡ Ok body) where
  opened : packet_read past octets ≡ (events_of body >>= λ events. at_most_64 (past ++ events) >>= with_rest body.rest)
  unfolding packet_read
  opened = rw read refl

  pub events_refused : (fault : RtcpRefusal) → after_all (notes past false) (events_of body) ≡ Err fault → packet_read past octets ≡ Err fault
  events_refused fault e = opened ∙ go (events_of body) e
    where
      go : (r : Result (List Event) RtcpRefusal) → after_all (notes past false) r ≡ Err fault → (r >>= λ events. at_most_64 (past ++ events) >>= with_rest body.rest) ≡ Err fault
      go (Ok events) h = absurd cc
      go (Err d) h = let is : d ≡ fault = cc in rw is refl

  pub events_too_many : (n : Notes) → length past ≤ 64 → after_all (notes past false) (events_of body) ≡ Ok n → n.many ≡ true → packet_read past octets ≡ Err Many
  events_too_many n few e many = opened ∙ go (events_of body) e
    where
      go : (r : Result (List Event) RtcpRefusal) → after_all (notes past false) r ≡ Ok n → (r >>= λ events. at_most_64 (past ++ events) >>= with_rest body.rest) ≡ Err Many
      go (Err d) h = absurd cc
      go (Ok events) h = let is : all_noted (notes past false) events ≡ n = cc in rw (too_many past events n few is many) refl

  pub events_taken : (n : Notes) → length past ≤ 64 → after_all (notes past false) (events_of body) ≡ Ok n → n.many ≡ false → packet_read past octets ≡ Ok (record { events = n.events; rest = body.rest })
  events_taken n few e fit = opened ∙ go (events_of body) e
    where
      go : (r : Result (List Event) RtcpRefusal) → after_all (notes past false) r ≡ Ok n → (r >>= λ events. at_most_64 (past ++ events) >>= with_rest body.rest) ≡ Ok (record { events = n.events; rest = body.rest })
      go (Err d) h = absurd cc
      go (Ok events) h = let is : all_noted (notes past false) events ≡ n = cc in rw (all_fit past events n few is fit) refl

pub taken_few : (past : List Event) (read : Result (List Event) RtcpRefusal) (n : Notes) → length past ≤ 64 → after_all (notes past false) read ≡ Ok n → length n.events ≤ 64
taken_few past (Ok events) n few e =
    let is : all_noted (notes past false) events ≡ n = cc in
    subst (λ (m : Notes). length m.events ≤ 64) is (noted_few (notes past false) events few)
taken_few past (Err d) n few e = absurd cc

-- ---- all packets

-- what comes of the events so far and of what follows, in at most so many steps
abbrev pub and_more : ℕ → List Event → List ℕ → Result (List Event) RtcpRefusal
and_more fuel events rest = if length rest == 0 then Ok events else packets_within fuel events rest

pub first_read : (octets : List ℕ) → (n : ℕ) × (length octets ≤ suc n) × (rtcp octets ≡ (packet_read [] octets >>= λ told. and_more n told.events told.rest))
unfolding rtcp packets_within packet_read body_at
first_read [] = (0, omega arith, refl)
first_read (x ∷ xs) = (length xs, omega arith, refl)

pub next_read : (n : ℕ) (past : List Event) (rest : List ℕ) → (length rest == 0) ≡ false → and_more (suc n) past rest ≡ (packet_read past rest >>= λ told. and_more n told.events told.rest)
unfolding packets_within
next_read n past rest some = rw some refl

pub first_err : (past : List Event) (octets : List ℕ) (fault : RtcpRefusal) → past ≡ [] → packet_read past octets ≡ Err fault → rtcp octets ≡ Err fault
first_err past octets fault none e =
    let f = first_read octets in
    f.2 ∙ rw (subst (λ (xs : List Event). packet_read xs octets ≡ Err fault) none e) refl

-- what is left to read behind the packets so far gives all that is to be read
pub record Left (past : List Event) (rest octets : List ℕ) : Type 0 where
  pub steps : ℕ
  pub enough : length rest ≤ steps
  pub gives : and_more steps past rest ≡ rtcp octets

pub first_ok : (past : List Event) (octets : List ℕ) (told : Told) → past ≡ [] → packet_read past octets ≡ Ok told → length told.rest + 4 ≤ length octets → Left told.events told.rest octets
first_ok past octets told none e shorter =
    let f = first_read octets in
    let long = f.1 in
    record {
      steps = f.0;
      enough = omega (arith, long, shorter);
      gives = sym (f.2 ∙ rw (subst (λ (xs : List Event). packet_read xs octets ≡ Ok told) none e) refl);
    }

some_left : (rest : List ℕ) (n : ℕ) → (length rest == 0) ≡ false → length rest ≤ n → 0 < n
some_left [] n some enough = absurd cc
some_left (x ∷ xs) n some enough = omega arith

pub next_err : (past : List Event) (rest octets : List ℕ) (fault : RtcpRefusal) → Left past rest octets → (length rest == 0) ≡ false → packet_read past rest ≡ Err fault → rtcp octets ≡ Err fault
next_err past rest octets fault l some e = go l.steps (some_left rest l.steps some l.enough) l.gives
  where
    go : (n : ℕ) → 0 < n → and_more n past rest ≡ rtcp octets → rtcp octets ≡ Err fault
    go zero h g = absurd (omega arith)
    go (suc n) h g = sym g ∙ (next_read n past rest some ∙ rw e refl)

pub next_ok : (past : List Event) (rest octets : List ℕ) (told : Told) → Left past rest octets → (length rest == 0) ≡ false → packet_read past rest ≡ Ok told → length told.rest + 4 ≤ length rest
    → Left told.events told.rest octets
next_ok past rest octets told l some e shorter = go l.steps (some_left rest l.steps some l.enough) l.enough l.gives
  where
    go : (n : ℕ) → 0 < n → length rest ≤ n → and_more n past rest ≡ rtcp octets → Left told.events told.rest octets
    go zero h k g = absurd (omega arith)
    go (suc n) h k g = record {
      steps = n;
      enough = omega (arith, shorter);
      gives = sym (sym g ∙ (next_read n past rest some ∙ rw e refl));
    }
