-- The records of what was sent, packet by packet.
use Rattle.std.proofs.Common.{Result, ◌≡◌, ℕ, zero, suc, ◌+◌, ◌-◌, ◌<◌, ◌≤◌, Some, List, [], ◌∷◌, ◌++◌, ◌⊎◌, inl, inr, drop, length, set, append_assoc, refl, ap, subst, sym, ◌∙◌, arith, length-set as set_length}
use Rattle.std.specs.Prelude.{OnErr, OnOk, flat_map, slice_get}
use Rattle.std.proofs.lemmas.List.{append-nil}
use Rattle.std.proofs.lemmas.Grind.{flat_map-append}
use Rattle.stream_spec.specs.Own.{Sent}
use Rattle.wire_spec.specs.Dump.{dump_opening, record_written}
use Rattle.packetizer.specs.declared.outputs.PacketizerSettings.{PacketizerSettings}
use Rattle.packetizer.specs.Sending.{octets_of}
use Rattle.sent_log.specs.declared.pens.Pen.{Pen}
use Rattle.sent_log.specs.Pens.{IsPenTo}
use Rattle.sent_log.specs.States.{Sending, State, first_sent, recording_of, records_of, sents}
use Rattle.rtt_io.specs.Fronts.{TakesFront}
use Rattle.sent_log.specs.Files.{ArePensTo, recording_at}
use Rattle.sent_log.specs.FileWriting.{HoldsRest}
use Rattle.sent_log.proofs.Passing.{all_taken, err_then, front_before, front_taken, more_held, ok_then, taken_on}

-- the octets of the records
abbrev pub written_of : PacketizerSettings → List (ℕ × Sent) → List ℕ
written_of settings sent = flat_map record_written (records_of settings sent)

-- ---- the first that were sent
pub all_first : (n : ℕ) (sent : List (ℕ × Sent)) → length sent ≤ n → first_sent n sent ≡ sent
all_first n sent l = let none : length sent - n ≡ 0 = omega (arith, l) in ap (λ k. drop k sent) none

-- ---- their records
behind : (settings : PacketizerSettings) (k : ℕ) (sent : List (ℕ × Sent)) → (more : List (ℕ × List ℕ)) × (records_of settings sent ≡ records_of settings (drop k sent) ++ more)
behind settings zero sent = ([], sym (append-nil (records_of settings sent)))
behind settings (suc k) [] = ([], refl)
behind settings (suc k) (x ∷ sent) =
    let r = behind settings k sent in
    let last : List (ℕ × List ℕ) = (x.0, octets_of settings (sents sent) x.1) ∷ [] in
    (r.0 ++ last, ap (λ (xs : List (ℕ × List ℕ)). xs ++ last) r.1 ∙ append_assoc (records_of settings (drop k sent)) r.0 last)

-- the records of the first of them stand in front
pub first_in_front : (settings : PacketizerSettings) (n : ℕ) (sent : List (ℕ × Sent)) → (more : List ℕ) × (written_of settings sent ≡ written_of settings (first_sent n sent) ++ more)
first_in_front settings n sent =
    let r = behind settings (length sent - n) sent in
    (flat_map record_written r.0, ap (λ (xs : List (ℕ × List ℕ)). flat_map record_written xs) r.1 ∙ flat_map-append record_written (records_of settings (first_sent n sent)) r.0)

-- one more was sent
pub one_more : (settings : PacketizerSettings) (n : ℕ) (sent : List (ℕ × Sent)) (e : ℕ × Sent) (at : ℕ) (octets : List ℕ) → first_sent (n + 1) sent ≡ e ∷ first_sent n sent → at ≡ e.0
    → octets ≡ octets_of settings (sents (first_sent n sent)) e.1 → written_of settings (first_sent n sent) ++ record_written (at, octets) ≡ written_of settings (first_sent (n + 1) sent)
one_more settings n sent e at octets first moment packet =
    let past = first_sent n sent in
    let made = octets_of settings (sents past) e.1 in
    ap (λ (m : ℕ). written_of settings past ++ record_written (m, octets)) moment
    ∙ (ap (λ (xs : List ℕ). written_of settings past ++ record_written (e.0, xs)) packet
    ∙ (ap (λ (xs : List ℕ). written_of settings past ++ xs) (sym (append-nil (record_written (e.0, made))))
    ∙ (sym (flat_map-append record_written (records_of settings past) ((e.0, made) ∷ []))
    ∙ ap (λ (s : List (ℕ × Sent)). written_of settings s) (sym first))))

-- the next record is in the page, and what the page held before was taken, or is there still
pub next_held : (settings : PacketizerSettings) (n : ℕ) (sent : List (ℕ × Sent)) (e : ℕ × Sent) (at : ℕ) (octets : List ℕ) → first_sent (n + 1) sent ≡ e ∷ first_sent n sent → at ≡ e.0
    → octets ≡ octets_of settings (sents (first_sent n sent)) e.1 → (before middle took held rest page opening : List ℕ) → HoldsRest before middle held (opening ++ written_of settings (first_sent n sent))
    → HoldsRest middle took rest held → page ≡ rest ++ record_written (at, octets) → HoldsRest before took page (opening ++ written_of settings (first_sent (n + 1) sent))
next_held settings n sent e at octets first moment packet before middle took held rest page opening h k is =
    let last = record_written (at, octets) in
    let written = written_of settings (first_sent n sent) in
    subst (λ (xs : List ℕ). HoldsRest before took xs (opening ++ written_of settings (first_sent (n + 1) sent))) (sym is)
    (subst (λ (xs : List ℕ). HoldsRest before took (rest ++ last) xs)
    (append_assoc opening written last ∙ ap (λ (xs : List ℕ). opening ++ xs) (one_more settings n sent e at octets first moment packet))
    (more_held before took rest (opening ++ written) last (taken_on before middle took held rest (opening ++ written) h k)))

-- a front of the page, behind what was taken before, is a front of all
pub front_of_all : (settings : PacketizerSettings) (n : ℕ) (sent : List (ℕ × Sent)) (before middle took page opening : List ℕ) → HoldsRest before middle page (opening ++ written_of settings (first_sent n sent))
    → TakesFront middle took page → TakesFront before took (opening ++ written_of settings sent)
front_of_all settings n sent before middle took page opening h f =
    let r = first_in_front settings n sent in
    let written = written_of settings (first_sent n sent) in
    subst (λ (xs : List ℕ). TakesFront before took xs) (append_assoc opening written r.0 ∙ ap (λ (xs : List ℕ). opening ++ xs) (sym r.1))
    (front_before before took (opening ++ written) r.0 (front_taken before middle took page (opening ++ written) h f))

-- once all records were made, what was taken and the page are the whole recording
all_held : (x : Sending) (n : ℕ) (before took page : List ℕ) → length x.sent ≤ n → HoldsRest before took page (dump_opening ++ written_of x.settings (first_sent n x.sent)) → HoldsRest before took page (recording_of x)
all_held x n before took page l h = subst (λ (s : List (ℕ × Sent)). HoldsRest before took page (dump_opening ++ written_of x.settings s)) (all_first n x.sent l) h

-- where the page is taken then, the whole recording was
pub whole_taken : {A B : Type 0} (r : Result A B) (x : Sending) (n : ℕ) (before middle took page : List ℕ) → length x.sent ≤ n → HoldsRest before middle page (dump_opening ++ written_of x.settings (first_sent n x.sent))
    → OnOk r (took ≡ middle ++ page) → OnOk r (took ≡ before ++ recording_of x)
whole_taken r x n before middle took page l h =
    ok_then (took ≡ middle ++ page) (took ≡ before ++ recording_of x) r (all_taken before middle took page (recording_of x) (all_held x n before middle page l h))

-- where a front of it is, a front of the recording was
pub front_is_taken : {A B : Type 0} (r : Result A B) (x : Sending) (n : ℕ) (before middle took page : List ℕ) → length x.sent ≤ n → HoldsRest before middle page (dump_opening ++ written_of x.settings (first_sent n x.sent))
    → OnErr r (TakesFront middle took page) → OnErr r (TakesFront before took (recording_of x))
front_is_taken r x n before middle took page l h =
    err_then (TakesFront middle took page) (TakesFront before took (recording_of x)) r (front_taken before middle took page (recording_of x) (all_held x n before middle page l h))

-- ---- a terminal's recording
pub recording_is : (log : State) (terminal : ℕ) (x : Sending) → slice_get log terminal ≡ Some x → recording_at log terminal ≡ recording_of x
recording_is [] terminal x e = absurd (cc e)
recording_is (y ∷ log) zero x e = ap recording_of (let same : y ≡ x = cc e in same)
recording_is (y ∷ log) (suc terminal) x e = recording_is log terminal x e

pub terminal_there : (log : State) (terminal : ℕ) → terminal < length log → (x : Sending) × (slice_get log terminal ≡ Some x)
terminal_there [] terminal l = absurd (omega arith)
terminal_there (x ∷ log) zero l = (x, refl)
terminal_there (x ∷ log) (suc terminal) l = terminal_there log terminal (omega arith)

-- ---- pens to all terminals
get_push : {X : Type 0} (xs : List X) (x y : X) (j : ℕ) → slice_get (xs ++ x ∷ []) j ≡ Some y → (slice_get xs j ≡ Some y) ⊎ ((j ≡ length xs) × (x ≡ y))
get_push [] x y zero e = inr (refl, cc e)
get_push [] x y (suc j) e = absurd (cc e)
get_push (z ∷ xs) x y zero e = inl e
get_push (z ∷ xs) x y (suc j) e = elim (get_push xs x y j e) [ inl g ↦ inl g | inr p ↦ inr (ap suc p.0, p.1) ]

set_cases : {X : Type 0} (xs : List X) (i : ℕ) (x : X) (j : ℕ) (y : X) → slice_get (set xs i x) j ≡ Some y → (slice_get xs j ≡ Some y) ⊎ ((j ≡ i) × (x ≡ y))
set_cases [] i x j y e = inl e
set_cases (z ∷ xs) zero x zero y e = inr (refl, cc e)
set_cases (z ∷ xs) zero x (suc j) y e = inl e
set_cases (z ∷ xs) (suc i) x zero y e = inl e
set_cases (z ∷ xs) (suc i) x (suc j) y e = elim (set_cases xs i x j y e) [ inl g ↦ inl g | inr p ↦ inr (ap suc p.0, p.1) ]

pub one_pen_more : (log : State) (pens : List Pen) (terminal : ℕ) (new : Pen) → length pens ≡ terminal
    → ((j : ℕ) (x : Sending) (o : Pen) → slice_get log j ≡ Some x → slice_get pens j ≡ Some o → IsPenTo x o)
    → ((x : Sending) → slice_get log terminal ≡ Some x → IsPenTo x new)
    → (j : ℕ) (x : Sending) (o : Pen) → slice_get log j ≡ Some x → slice_get (pens ++ new ∷ []) j ≡ Some o → IsPenTo x o
one_pen_more log pens terminal new many all last j x o at there = elim (get_push pens new o j there) [
  | inl old ↦ all j x o at old
  | inr own ↦ subst (λ (y : Pen). IsPenTo x y) own.1 (last x (ap (λ k. slice_get log k) (sym many ∙ sym own.0) ∙ at))
]

-- one pen is another
pub one_pen_changed : (log : State) (pens : List Pen) (terminal : ℕ) (new : Pen) → ArePensTo log pens
    → ((x : Sending) → slice_get log terminal ≡ Some x → IsPenTo x new) → ArePensTo log (set pens terminal new)
one_pen_changed log pens terminal new all changed = record {
  each = set_length pens terminal new ∙ all.each;
  stand = λ j x o at there. elim (set_cases pens terminal new j o there) [
    | inl old ↦ all.stand j x o at old
    | inr own ↦ subst (λ (y : Pen). IsPenTo x y) own.1 (changed x (ap (λ k. slice_get log k) (sym own.0) ∙ at))
  ];
}
