-- What came of a link that is asked at a pace.
use Rattle.std.specs.Prelude.{◌≡◌, ◌≤◌, ℕ, true, ◌++◌}
use Rattle.rtt_io.specs.Counts.{Rose}
use Rattle.stream_spec.specs.Links.{Takes, is_closed}
use Rattle.link_io.specs.declared.ends.LinkIn as links
use Rattle.live_leg.specs.declared.paced_links.LinkStop.{LinkStop}
use Rattle.live_leg.specs.declared.paced_links.LinkStop.TheVariants.{Failed, Told}
use Rattle.live_leg.specs.declared.paced_links.PacedLink.{PacedLink}

-- a count of faults rose where it failed, and else is as it was
abbrev pub StopCounts : LinkStop → ℕ → ℕ → Type 0
StopCounts Failed old new = Rose old new
StopCounts Told old new = new ≡ old

module _ {L : Type 0} (g : links.Ghosts L) where
  -- These takes came, newest first, and none failed.
  pub record LinkCame (first now : PacedLink L) (takes : Takes) : Type 0 where
    pub taken : g.tells → g.taken now.link ≡ takes ++ g.taken first.link
    pub closed : is_closed takes ≡ true → g.closed now.link ≡ true
    pub calm : g.faults now.link ≡ g.faults first.link
    pub port : g.port now.link ≡ g.port first.link

  -- The same, and behind them it stopped for this reason.
  pub record LinkFailed (first now : PacedLink L) (takes : Takes) (why : LinkStop) : Type 0 where
    pub taken : g.tells → g.taken now.link ≡ takes ++ g.taken first.link
    pub closed : is_closed takes ≡ true → g.closed now.link ≡ true
    pub never_falls : g.faults first.link ≤ g.faults now.link
    pub counts : StopCounts why (g.faults first.link) (g.faults now.link)
    pub port : g.port now.link ≡ g.port first.link
