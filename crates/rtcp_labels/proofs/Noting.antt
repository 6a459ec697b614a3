-- Events that are noted one after the other.
use Rattle.std.proofs.Common.{◌≡◌, ◌≤◌, Bool, true, false, List, [], ◌∷◌, ◌++◌, length, Result, Ok, Err, refl, sym, ap, ◌∙◌, append_assoc, length-append, arith}
use Rattle.std.specs.Prelude.{nat_lt, if◌then◌else◌}
use Rattle.std.proofs.lemmas.List.{append-nil}
use Rattle.std.proofs.lemmas.Bool.{lt-ltb, le-ltb, ltb-true, ltb-false}
use Rattle.rtt_base.specs.Steps.{◌>>=◌}
use Rattle.wire_spec.specs.declared.events.Event.{Event}
use Rattle.wire_spec.specs.declared.rtcp_faults.RtcpRefusal.{RtcpRefusal}
use Rattle.wire_spec.specs.declared.rtcp_faults.RtcpRefusal.TheVariants.{Many}
use Rattle.wire_spec.specs.Rtcp.{Told, and_told, at_most_64}
use Rattle.rtcp_labels.specs.Notes.{Notes, notes, noted, all_noted, after}

pub noted_both : (n : Notes) (xs ys : List Event) → all_noted n (xs ++ ys) ≡ all_noted (all_noted n xs) ys
noted_both n [] ys = refl
noted_both n (x ∷ xs) ys = noted_both (noted n x) xs ys

-- what is told first is noted first
pub after_more : (n : Notes) (first : List Event) (read : Result Told RtcpRefusal) → after n (read >>= λ told. Ok (and_told first told)) ≡ after (all_noted n first) read
after_more n first (Ok told) = ap (λ (all : Notes). Ok (record { noted = all; rest = told.rest })) (noted_both n first told.events)
after_more n first (Err e) = refl

stays_many : (events es : List Event) → (all_noted (notes events true) es).many ≡ true
stays_many events [] = refl
stays_many events (e ∷ es) = go (nat_lt (length events) 64) (λ more. stays_many more es)
  where
    go : (b : Bool) → ((more : List Event) → (all_noted (notes more true) es).many ≡ true) → (all_noted (if b then notes (events ++ e ∷ []) true else notes events true) es).many ≡ true
    go true h = h (events ++ e ∷ [])
    go false h = h events

abbrev pub answer : Notes → Result (List Event) RtcpRefusal
answer n = if n.many then Err Many else Ok n.events

-- where at most 64 came before: all events, or there are too many
pub noted_all : (past es : List Event) → length past ≤ 64 → at_most_64 (past ++ es) ≡ answer (all_noted (notes past false) es)
noted_all past [] few = rw (append-nil past, le-ltb 64 (length past) few) refl
noted_all past (e ∷ es) few = go (nat_lt (length past) 64) refl (noted_all (past ++ e ∷ []) es)
  where
    go : (b : Bool) → nat_lt (length past) 64 ≡ b → (length (past ++ e ∷ []) ≤ 64 → at_most_64 ((past ++ e ∷ []) ++ es) ≡ answer (all_noted (notes (past ++ e ∷ []) false) es)) → at_most_64 (past ++ e ∷ es) ≡ answer (all_noted (if b then notes (past ++ e ∷ []) false else notes past true) es)
    go true room h =
        let more : length (past ++ e ∷ []) ≤ 64 = omega (arith, ltb-true (length past) 64 room, length-append past (e ∷ [])) in
        ap at_most_64 (sym (append_assoc past (e ∷ []) es)) ∙ h more
    go false full h =
        let many : nat_lt 64 (length (past ++ e ∷ es)) ≡ true = lt-ltb 64 (length (past ++ e ∷ es)) (omega (arith, ltb-false (length past) 64 full, length-append past (e ∷ es))) in
        rw (many, stays_many past es) refl

pub too_many : (past es : List Event) (n : Notes) → length past ≤ 64 → all_noted (notes past false) es ≡ n → n.many ≡ true → at_most_64 (past ++ es) ≡ Err Many
too_many past es n few is many = noted_all past es few ∙ rw (is, many) refl

pub all_fit : (past es : List Event) (n : Notes) → length past ≤ 64 → all_noted (notes past false) es ≡ n → n.many ≡ false → at_most_64 (past ++ es) ≡ Ok n.events
all_fit past es n few is fit = noted_all past es few ∙ rw (is, fit) refl

-- never more than 64 are noted
pub noted_few : (n : Notes) (es : List Event) → length n.events ≤ 64 → length (all_noted n es).events ≤ 64
noted_few n [] few = few
noted_few n (e ∷ es) few = noted_few (noted n e) es (go (nat_lt (length n.events) 64) refl)
  where
    go : (b : Bool) → nat_lt (length n.events) 64 ≡ b → length (if b then notes (n.events ++ e ∷ []) n.many else notes n.events true).events ≤ 64
    go true room = omega (arith, ltb-true (length n.events) 64 room, length-append n.events (e ∷ []))
    go false full = few
