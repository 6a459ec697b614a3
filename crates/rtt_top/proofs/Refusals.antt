-- Why a recording is refused, and what is printed of one that is not.
use Rattle.std.proofs.Common.{◌≡◌, ℕ, Option, List, refl, ap, ◌∙◌}
use Rattle.rtt_base.specs.declared.text_packets.PayloadTypes.{PayloadTypes}
use Rattle.wire_spec.specs.Dump.{Recording, dump, usual_limit}
use Rattle.rtpdump_io.specs.declared.items.RecordingFault.{RecordingFault}
use Rattle.rtpdump_io.specs.declared.items.RecordingFault.TheVariants.{Dump, NoMemory}
use Rattle.rtpdump_io.specs.Faults.{FaultOf}
use Rattle.command_spec.specs.Showing.{if_no_recording}
use Rattle.report_spec.specs.Showing.{recording_view, show_view}
use Rattle.rtt_show.specs.Gathers.{RecordingIsRefused}
use Rattle.report_spec.specs.Times.{start_of, timed_view, times_view}
use Rattle.rtt_top.specs.declared.views.RecordingView.{RecordingView}
use Rattle.rtt_top.specs.declared.views.RecordingView.TheVariants.{Lines, Streams, Times, Text, Transcript}
use Rattle.rtt_top.specs.RecordingViews.{IsRefusal, PrintsView, command_of, refused_by, view_by}

-- a recording that is refused for any fault
pub as_refusal : (recording : Recording) (fault : RecordingFault) → FaultOf recording fault → IsRefusal recording.fault fault
as_refusal recording (Dump fault) is = is
as_refusal recording NoMemory is = tt

-- one that is refused only where it is none
pub shown_refusal : (recording : Recording) (fault : RecordingFault) → RecordingIsRefused recording fault → IsRefusal (if_no_recording recording.fault) fault
shown_refusal recording (Dump fault) refused = refused
shown_refusal recording NoMemory refused = tt

pub printed_is : (payload_types : PayloadTypes) (start : Option ℕ) (come : Recording) (octets printed : List ℕ) → printed ≡ recording_view payload_types start come
    → start ≡ start_of octets → come ≡ dump usual_limit octets → printed ≡ show_view payload_types octets
unfolding show_view
printed_is payload_types start come octets printed is at to = is ∙ (ap (λ s. recording_view payload_types s come) at ∙ ap (recording_view payload_types (start_of octets)) to)

-- what is told of it by the clock
pub timed_is : (payload_types : PayloadTypes) (start : Option ℕ) (come : Recording) (octets printed : List ℕ) → printed ≡ timed_view payload_types start come
    → start ≡ start_of octets → come ≡ dump usual_limit octets → printed ≡ times_view payload_types octets
unfolding times_view
timed_is payload_types start come octets printed is at to = is ∙ (ap (λ s. timed_view payload_types s come) at ∙ ap (timed_view payload_types (start_of octets)) to)

-- each view is what its command prints
pub prints_view : (it : RecordingView) (file : List ℕ) → PrintsView (refused_by it) (view_by it) file (command_of it file)
prints_view (Lines payload_types) file = record { does = refl; recording = refl }
prints_view (Streams payload_types) file = record { does = refl; recording = refl }
prints_view (Times payload_types) file = record { does = refl; recording = refl }
prints_view (Text request) file = record { does = refl; recording = refl }
prints_view (Transcript request) file = record { does = refl; recording = refl }
