-- Where no leg comes later or goes, and each has a place, the legs that are admitted in order come to the places 0, 1, 2 ..
use Rattle.std.proofs.Common.{◌≡◌, ℕ, zero, suc, ◌<◌, ◌≤◌, true, inl, inr, Some, [], refl, ap, subst, sym, ◌∙◌, arith}
use Rattle.std.specs.Prelude.{is_some}
use Rattle.std.proofs.lemmas.Bool.{cases_eq}
use Rattle.mixer_spec.specs.Setups.{AllStay, Setup, is_before_end}
use Rattle.mixer_spec.specs.Table.{Table, after_calls, admitted, come_to, is_seated}
use Rattle.mixer_spec.specs.Calls.{IsAdmit, turns_made}
use Rattle.mixer_spec.proofs.Lists.{set_same, set_other}
use Rattle.mixer_spec.proofs.Staying.{Filled, next_free}
use Rattle.mixer_posts.specs.Posts.{sent_by}
use Rattle.mixer_posts.specs.Standing.{AreBefore}
use Rattle.rtt_live.specs.Mixers.{all_admitted}

come_filled : (s : Setup) (n : ℕ) (table : Table) → AllStay s → n < s.legs → Filled s n table.seats → Filled s (suc n) (admitted s n true table).seats
come_filled s n table st l f = subst (λ (v : Table). Filled s (suc n) v.seats) (sym (ap (come_to n true table) (next_free s n table.seats st l f))) (record {
  place = λ i b. elim (cases_eq i n) [ inl e ↦ set_same table.seats.place n (Some n) i e ∙ ap Some (sym e) | inr e ↦ set_other table.seats.place n (Some n) i e ∙ f.place i (omega (arith, b, e)) ];
  came = λ i b. elim (cases_eq i n) [ inl e ↦ set_same table.seats.came n true i e | inr e ↦ set_other table.seats.came n true i e ∙ f.came i (omega (arith, b, e)) ];
  listens = λ i b. elim (cases_eq i n) [ inl e ↦ set_same table.seats.listens n true i e | inr e ↦ set_other table.seats.listens n true i e ∙ f.listens i (omega (arith, b, e)) ];
  none = λ i b. set_other table.seats.place n (Some n) i (λ e. omega (arith, b, e)) ∙ f.none i (omega (arith, b));
  fresh = λ i b. set_other table.seats.came n true i (λ e. omega (arith, b, e)) ∙ f.fresh i (omega (arith, b));
})

-- all that came hold a place
pub all_filled : (s : Setup) (n : ℕ) → AllStay s → n ≤ s.legs → Filled s n (after_calls s (all_admitted n)).seats
all_filled s zero st l = record { place = λ i b. absurd (omega arith); came = λ i b. absurd (omega arith); listens = λ i b. absurd (omega arith); none = λ i b. refl; fresh = λ i b. refl }
all_filled s (suc n) st l = come_filled s n (after_calls s (all_admitted n)) st (omega (arith, l)) (all_filled s n st (omega (arith, l)))

pub all_seated : (s : Setup) (n : ℕ) → AllStay s → n ≤ s.legs → (j : ℕ) → j < n → is_seated (after_calls s (all_admitted n)).seats j ≡ true
all_seated s n st l j b = ap is_some ((all_filled s n st l).place j b)

-- the next one may come
pub may_come : (s : Setup) (n : ℕ) → AllStay s → n < s.legs → IsAdmit s n true (all_admitted n)
may_come s n st l = record {
  at = 0;
  leg = l;
  fresh = (all_filled s n st (omega (arith, l))).fresh n (omega arith);
  begun = omega (arith, st.from n);
  listens = sym (ap (is_before_end 0) (st.until n));
}

-- nothing is sent by then, and no turn was made
pub none_sent : (s : Setup) (n : ℕ) → sent_by s (all_admitted n) ≡ []
none_sent s zero = refl
none_sent s (suc n) = none_sent s n

pub no_turn : (n : ℕ) → turns_made (all_admitted n) ≡ 0
no_turn zero = refl
no_turn (suc n) = no_turn n

pub none_late : (moment n : ℕ) → AreBefore moment (all_admitted n)
none_late moment zero = tt
none_late moment (suc n) = none_late moment n
