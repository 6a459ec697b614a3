-- A leg of which the end was popped.
use Rattle.std.proofs.Common.{◌≡◌, true, false, true≢false, inl, inr, List, [], ◌∷◌, ◌++◌, refl, ap, sym, ◌∙◌, subst, append_assoc}
use Rattle.std.specs.Prelude.{Bool}
use Rattle.std.proofs.lemmas.List.{append-nil}
use Rattle.link_io.specs.declared.ends.LinkIn as links
use Rattle.stream_spec.specs.Links.{Takes, Came, Datagram, Large, Quiet, Closed, is_closed, is_closing}
use Rattle.live_spec.specs.Told.{Hearing, all_by, ready_by, told_by}
use Rattle.live_leg.specs.declared.settings.LegSettings.{LegSettings}
use Rattle.live_leg.specs.LinkLegs.{Item}
use Rattle.live_leg.specs.Items as item
use Rattle.live_leg.specs.declared.states.State.{State}
use Rattle.live_leg.specs.declared.states.State.TheVariants.{Idle, Giving, Blank, Parting, Ending, Over}
use Rattle.live_leg.specs.Items.{AreItems, fault_in, signal_of, texts_in}
use Rattle.live_leg.specs.Stands.{IsEnded, IsGivingSome, IsStop, PhaseAt}
use Rattle.live_leg.specs.Stories.{hearing_of}
use Rattle.live_leg.proofs.Pacing.{went_closed}
use Rattle.mix_loop.specs.Handed.{has_end}
use Rattle.mix_loop.proofs.Enough.{end_append}
use Rattle.mix_loop.specs.Laws.{EndIsAll}
use Rattle.mix_loop.proofs.AsLeg.{whole_as}
use Rattle.mix_loop.proofs.CallOpening.{closes_now, stays_closed}
use Rattle.mix_loop.proofs.Draining.{whole_ready}
use Rattle.mix_loop.proofs.Covering.{texts_no_signals}
use Rattle.mix_loop.proofs.CallFinding.{but_last, end_split, longer, no_end}

-- by open takes no end was given
open_no_end : (h : Hearing) (takes : Takes) (items : List Item) → AreItems h takes items → (told_by h takes).closed ≡ false → has_end items ≡ true → ⊥
open_no_end h [] items a o e = true≢false (sym e ∙ ap has_end a)
open_no_end h (w ∷ past) items a o e =
    elim (end_split a.0 (a.1 ++ signal_of w.came ∷ []) (sym (ap has_end a.2) ∙ e)) [
      | inl before ↦ open_no_end h past a.0 a.3 (was_open (told_by h past).closed refl) before
      | inr behind ↦ elim (end_split a.1 (signal_of w.came ∷ []) behind) [
        | inl text ↦ true≢false (sym text ∙ no_end a.1 (texts_no_signals a.1 a.4))
        | inr signal ↦ true≢false (sym (closes_now h (told_by h past) w.at w.came (closing w.came signal)) ∙ o)
      ]
    ]
  where
    was_open : (b : Bool) → (told_by h past).closed ≡ b → (told_by h past).closed ≡ false
    was_open true q = absurd (true≢false (sym (stays_closed h (told_by h past) w.at w.came q) ∙ o))
    was_open false q = q

    closing : (x : Came) → has_end (signal_of x ∷ []) ≡ true → is_closing x ≡ true
    closing (Datagram d) m = absurd (true≢false (sym m))
    closing Large m = absurd (true≢false (sym m))
    closing Quiet m = absurd (true≢false (sym m))
    closing Closed m = refl

stop_no_end : (x : Item) → IsStop x → has_end (x ∷ []) ≡ true → ⊥
stop_no_end (item.Text r o) s e = s
stop_no_end item.Seen s e = s
stop_no_end item.Silent s e = s
stop_no_end item.End s e = s
stop_no_end (item.Fault why) s e = true≢false (sym e)

module _ (settings : LegSettings) (takes : Takes) (gave popped left : List Item) (all : gave ≡ popped ++ left) (ends : has_end popped ≡ true) where
  abbrev h : Hearing
  h = hearing_of settings

  end_in : has_end gave ≡ true
  end_in = ap has_end all ∙ end_append popped left ends

  giving_no_end : {b : Bool} {m : Item} → IsGivingSome b m (hearing_of settings) takes gave → ⊥
  giving_no_end w = elim (end_split w.before w.news (sym (ap has_end w.items_are) ∙ end_in)) [
    | inl before ↦ open_no_end (hearing_of settings) w.past w.before w.are w.open_before before
    | inr text ↦ true≢false (sym text ∙ no_end w.news (texts_no_signals w.news w.texts))
  ]

  ended_all : IsEnded (hearing_of settings) takes gave → (is_closed takes ≡ true) × (texts_in 0 popped ≡ all_by (hearing_of settings) takes)
  ended_all w =
      let s = w.some in
      let a = subst (λ (ps : Takes). AreItems (hearing_of settings) ps gave) s.takes_are w.are in
      let m : Item = signal_of s.last.came in
      let whole : popped ≡ gave = elim (longer popped left gave [] (sym all ∙ sym (append-nil gave))) [
        | inl x ↦ x.1 ∙ (ap (λ z. gave ++ z) (nothing x.0 left x.2) ∙ append-nil gave)
        | inr x ↦
            let r = but_last popped x.1 (a.0 ++ a.1) x.0 m (sym x.2 ∙ (a.2 ∙ sym (append_assoc a.0 a.1 (m ∷ [])))) in
            absurd (elim (end_split a.0 a.1 (sym (ap has_end r.1) ∙ end_append popped r.0 ends)) [
              | inl before ↦ open_no_end (hearing_of settings) s.past a.0 a.3 s.open_before before
              | inr text ↦ true≢false (sym text ∙ no_end a.1 (texts_no_signals a.1 a.4))
            ])
      ] in (
        w.closed,
        ap (texts_in 0) whole ∙ (a.5 ∙ (ap (λ (ps : Takes). ready_by (hearing_of settings) ps) (sym s.takes_are) ∙ whole_ready (hearing_of settings) takes w.closed)),
      )
    where
      nothing : (z y : List Item) → z ++ y ≡ [] → z ≡ []
      nothing [] y e = refl
      nothing (k ∷ z) y e = absurd (cc e)

  phase_all : (st : State) → PhaseAt st (hearing_of settings) takes gave → (is_closed takes ≡ true) × (texts_in 0 popped ≡ all_by (hearing_of settings) takes)
  phase_all Idle p = absurd (open_no_end (hearing_of settings) takes gave p.are p.open_still end_in)
  phase_all Giving p = absurd (giving_no_end p)
  phase_all Blank p = absurd (giving_no_end p)
  phase_all Parting p = absurd (giving_no_end p)
  phase_all Ending p = absurd (giving_no_end p)
  phase_all Over (inl p) = ended_all p
  phase_all Over (inr p) = absurd (elim (end_split p.before (p.last ∷ []) (sym (ap has_end p.items_are) ∙ end_in)) [
    | inl before ↦ open_no_end (hearing_of settings) takes p.before p.are p.open_still before
    | inr last ↦ stop_no_end p.last p.stops last
  ])

pub end_law : {L : Type 0} (g : links.Ghosts L) → EndIsAll g
end_law g leg first now gave popped left w all ends =
    let r = phase_all first.settings w.so.takes gave popped left all ends now.state w.so.phase in
    (r.0, went_closed g (fault_in gave) first.arrivals now.arrivals w.so.takes w.so.went r.0, whole_as leg (hearing_of first.settings) w.so.takes popped r.1)
