-- How a live call ended, as the definitions have it.
use Rattle.live_spec.specs.Served as served
use Rattle.rtt_live.specs.declared.reports.LiveEnd.{LiveEnd}
use Rattle.rtt_live.specs.declared.reports.LiveEnd.TheVariants.{Done, Closed}

abbrev pub end_of : LiveEnd → served.End
end_of Done = served.Done
end_of Closed = served.Closed
