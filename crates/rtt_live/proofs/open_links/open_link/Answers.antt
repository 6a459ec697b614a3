use Rattle.std.proofs.Common.{◌≡◌, ◌∙◌, ◌∷◌, ◌++◌, [], ℕ, true, Some, Option, List, get_or, inl, inr, refl, ap, sym, subst}
use Rattle.std.specs.Prelude.{IsSome}
use Rattle.rtt_io.specs.Counts.{Rose}
use Rattle.file_spec.specs.declared.conference_lines.LegLine.{LegLine}
use Rattle.live_leg.specs.declared.paced_links.PacedLink.{PacedLink}
use Rattle.file_spec.specs.Conference.{port}
use Rattle.mixer_spec.specs.Setups.{leg_at}
use Rattle.file_spec.specs.Conferences.{meaning_of}
use Rattle.rtt_live.specs.Opened.{leg_settings_at}
use Rattle.rtt_live.proofs.Closing.{nothing_more}
use Rattle.rtt_live.proofs.Showing.{found_leg, shown_leg}
use Rattle.rtt_live.proofs.Linking.{pair_is}
use Rattle.rtt_live.proofs.open_links.open_link.Goals as goal

pub unreachable-requires : goal.unreachable-requires
unreachable-requires g c =
    let legs = c.args.conference.now.legs in
    let own = c.args.own in
    let shown = c.index-as_slice-own.result in
    let at : leg_at legs own ≡ Some shown = found_leg legs own shown c.requires.own ∙ ap Some (sym (c.index-as_slice-own.is ∙ ap (λ (ls : List LegLine). get_or ls own shown) c.as_slice.ensures)) in
    let none = ap port (sym c.as_str.ensures) ∙ (sym c.number_from.ensures.exact ∙ c.in_default-number_from.is) in
    cc (subst (λ (o : Option ℕ). IsSome o) none (c.requires.ports own shown at))

pub returns-in_default-link-clause-refused : goal.returns-in_default-link-clause-refused
returns-in_default-link-clause-refused g c = λ line at. (
  refl,
  λ p e.
      let same = shown_leg c.as_slice.result.now c.args.conference.now.legs c.args.own c.index-as_slice-own.result line c.index-as_slice-own.is c.as_slice.ensures at in
      let there = ap port (sym c.as_str.ensures) ∙ (sym c.number_from.ensures.exact ∙ c.in-Some.is) in
      let is : c.in-Some.port ≡ p = cc (sym there ∙ (ap (λ (l : LegLine). port l.input) same ∙ e)) in
      subst (λ (q : ℕ). Rose (g.W.Links.own_faults c.args.world.now q) (g.W.Links.own_faults c.link.new.self q)) is c.in_default-link.ensures.failed,
)

pub returns-in-Ok-new-clause-leg : goal.returns-in-Ok-new-clause-leg
returns-in-Ok-new-clause-leg g c = λ line at.
    let same = shown_leg c.as_slice.result.now c.args.conference.now.legs c.args.own c.index-as_slice-own.result line c.index-as_slice-own.is c.as_slice.ensures at in
    let there = ap port (sym c.as_str.ensures) ∙ (sym c.number_from.ensures.exact ∙ c.in-Some.is) in
    let link = ap (λ (a : PacedLink g.row.W-In.Denot). a.link) c.in-Ok-new.ensures.arrivals ∙ c.new-arrivals.ensures.link in
    let opened = c.in-Ok-link.ensures in
    let numbered : g.W.In.LinkIn.port c.in-Ok-new.leg.arrivals.link ≡ c.in-Some.port = ap g.W.In.LinkIn.port link ∙ opened.ports.0 in
    record {
      settings = c.in-Ok-new.ensures.settings ∙ (c.leg_settings.ensures.value ∙ ap (leg_settings_at (meaning_of c.args.conference.now)) same);
      new = c.in-Ok-new.ensures.stands;
      at = ap (λ (l : LegLine). port l.input) (sym same) ∙ (there ∙ ap Some (sym numbered));
      fresh = ap g.W.In.LinkIn.faults link ∙ opened.fresh.0;
      told = λ t. ((opened.told t).0, ap g.W.In.LinkIn.taken link ∙ opened.none.0, subst (λ (q : ℕ). g.W.Links.opened c.link.new.self q ≡ true) (sym numbered) (opened.opens t));
    }

pub returns-in-Ok-new-clause-end : goal.returns-in-Ok-new-clause-end
returns-in-Ok-new-clause-end g c = λ line at.
    let same = shown_leg c.as_slice.result.now c.args.conference.now.legs c.args.own c.index-as_slice-own.result line c.index-as_slice-own.is c.as_slice.ensures at in
    let there = ap port (sym c.as_str.ensures) ∙ (sym c.number_from.ensures.exact ∙ c.in-Some.is) in
    let opened = c.in-Ok-link.ensures in
    record {
      at = ap (λ (l : LegLine). port l.input) (sym same) ∙ (there ∙ ap Some (sym opened.ports.1));
      fresh = opened.fresh.1;
      none = opened.none.1;
      told = λ t. (opened.told t).1;
    }

pub returns-in-Ok-new-clause-leads_there : goal.returns-in-Ok-new-clause-leads_there
returns-in-Ok-new-clause-leads_there g c =
    λ t line at.
    let same = shown_leg c.as_slice.result.now c.args.conference.now.legs c.args.own c.index-as_slice-own.result line c.index-as_slice-own.is c.as_slice.ensures at in
    let there : port line.input ≡ Some c.in-Some.port = ap (λ (l : LegLine). port l.input) (sym same) ∙ (ap port (sym c.as_str.ensures) ∙ (sym c.number_from.ensures.exact ∙ c.in-Some.is)) in
    let to : c.as_str-2.result.now ≡ line.output = c.as_str-2.ensures ∙ ap (λ (l : LegLine). l.output) same in
    let led = (c.in-Ok-link.ensures.leads_there t) in
    led ∙ ap (λ (x : ℕ × List ℕ). g.W.Links.leads c.args.world.now ++ x ∷ []) (pair_is c.in-Some.port c.as_str-2.result.now line there to)

pub returns-in-Err-clause-leads_nowhere_else : goal.returns-in-Err-clause-leads_nowhere_else
returns-in-Err-clause-leads_nowhere_else g c = λ t. inr (λ line at.
    let same = shown_leg c.as_slice.result.now c.args.conference.now.legs c.args.own c.index-as_slice-own.result line c.index-as_slice-own.is c.as_slice.ensures at in
    let there : port line.input ≡ Some c.in-Some.port = ap (λ (l : LegLine). port l.input) (sym same) ∙ (ap port (sym c.as_str.ensures) ∙ (sym c.number_from.ensures.exact ∙ c.in-Some.is)) in
    let to : c.as_str-2.result.now ≡ line.output = c.as_str-2.ensures ∙ ap (λ (l : LegLine). l.output) same in
    c.done_out.ensures.same_leads t
    ∙ (c.done_in.ensures.same_leads t
    ∙ (c.in-Ok-link.ensures.leads_there t
    ∙ ap (λ (x : ℕ × List ℕ). g.W.Links.leads c.args.world.now ++ x ∷ []) (pair_is c.in-Some.port c.as_str-2.result.now line there to))))

pub returns-in_default-clause-gives_nothing : goal.returns-in_default-clause-gives_nothing
returns-in_default-clause-gives_nothing g c = λ t p. inl refl

pub returns-in_default-link-clause-gives_nothing : goal.returns-in_default-link-clause-gives_nothing
returns-in_default-link-clause-gives_nothing g c = λ t p. inl (c.link.ensures.same_given t p)

pub returns-in-Err-clause-gives_nothing : goal.returns-in-Err-clause-gives_nothing
returns-in-Err-clause-gives_nothing g c = λ t.
    let opened = c.in-Ok-link.ensures in
    let end = c.in-Ok-link.outbound in
    let is_open : g.W.Links.opened c.done_in.new.self (g.W.Out.LinkOut.port end) ≡ true =
    c.done_in.ensures.same_opened t (g.W.Out.LinkOut.port end) ∙ (ap (g.W.Links.opened c.link.new.self) opened.ports.1 ∙ opened.opens t) in
    nothing_more (g.W.Out.LinkOut.port end) (g.W.Links.given_at c.args.world.now) (g.W.Links.given_at c.done_in.new.self) (g.W.Links.given_at c.done_out.new.self)
    (c.done_out.ensures.stored t is_open ∙ opened.none.1) (c.done_out.ensures.other_given t) (λ p. inl (c.done_in.ensures.same_given t p ∙ c.link.ensures.same_given t p))
