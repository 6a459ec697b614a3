-- An ear that gathers what is heard of each source.
use Rattle.std.proofs.Common.{◌≡◌, ℕ, ◌+◌, ◌<◌, ◌≤◌, ◌^◌, Bool, true, false, Some, List, [], ◌∷◌, ◌++◌, refl, ap, sym, ◌∙◌, arith, length, length-append, subst}
use Rattle.std.specs.Prelude.{All, ◌&&◌, slice_index}
use Rattle.std.proofs.lemmas.List.{map-append, length-map}
use Rattle.stream_spec.specs.Numbering.{Numbered}
use Rattle.stream_spec.specs.Hearing.{adds_marker, is_packet_of}
use Rattle.reorder_buffer.specs.Stories.{Story, Given, gave, given_of, ready_dues}
use Rattle.reorder_buffer.specs.Tracks.{Tracks}
use Rattle.reorder_buffer.specs.States.{State}
use Rattle.reorder_buffer.specs.declared.answers.Due.{Due}
use Rattle.receiver.specs.declared.receivers.ListedSource.{ListedSource}
use Rattle.receiver.specs.declared.source_texts.SourceText.{SourceText}
use Rattle.receiver.specs.Stands.{Stands, latest_number, used_packet}
use Rattle.receiver.specs.Each.{AreHeard, markers_from, one_if, sources_count}
use Rattle.receiver.specs.declared.settings.EarSettings.{EarSettings}
use Rattle.receiver.specs.declared.ears.Ear.{Ear}
use Rattle.receiver.specs.Hears.{arrival_count, is_finished, ready_packet, ready_packets}
use Rattle.receiver.specs.EarEach.{GatheredEach, HearsEach}
use Rattle.receiver.proofs.Given.{given_fits}
use Rattle.receiver.proofs.Giving.{heard_one}

one_fits : (b : Bool) → one_if b ≤ 1
one_fits true = omega arith
one_fits false = omega arith

markers_fit : (before us : List Numbered) (s : ℕ) → markers_from before us s ≤ length us
markers_fit before [] s = omega arith
markers_fit before (u ∷ us) s = let h = markers_fit (before ++ u ∷ []) us s in let o = one_fits (is_packet_of s u && adds_marker before u) in omega (arith, h, o)

-- there is a text for each source
pub texts_there : (e : Ear) (settings : EarSettings) (sources : List ℕ) (story : Story) (texts : List SourceText) → HearsEach e settings sources story texts → length texts ≡ sources_count e.receiver
texts_there e settings sources story texts h = h.each ∙ (sym (ap (λ (l : List ℕ). length l) h.hears.stands.listed) ∙ length-map e.receiver.listed.items (λ (l : ListedSource). l.source))

-- there are fewer markers than packets
pub markers_small : (e : Ear) (settings : EarSettings) (sources : List ℕ) (story : Story) (texts : List SourceText) → HearsEach e settings sources story texts → arrival_count e ≤ 2 ^ 40 → All (λ (t : SourceText). t.markers + 1 < 2 ^ 64) texts
markers_small e settings sources story texts h few k d below =
    let source = slice_index sources k in
    let is = (h.heard k d (omega (arith, below, h.each))).markers in
    let fits = markers_fit [] (ready_packets story.given) source in
    let same : length (ready_packets story.given) ≡ length story.given = length-map story.given ready_packet in
    let came = given_fits e.buffer story h.hears.tracks in
    omega (arith, is, fits, same, came, few)

-- between two packets
pub record GatheringEach (old e : Ear) (n : ℕ) (texts more : List SourceText) : Type 0 where
  pub hears : (settings : EarSettings) (sources : List ℕ) (story : Story) → HearsEach old settings sources story texts → (given : List Given) × HearsEach e settings sources (record story { given = given }) more × (length given ≡ length story.given + n)
  pub settings : e.settings ≡ old.settings
  pub piece : e.piece ≡ old.piece
  pub arrivals : arrival_count e ≡ arrival_count old
  pub finished : is_finished e ≡ is_finished old

pub gathers_each_none : (e : Ear) (texts : List SourceText) → GatheringEach e e 0 texts texts
gathers_each_none e texts = record { hears = λ settings sources story h. (story.given, h, omega arith); settings = refl; piece = refl; arrivals = refl; finished = refl }

pub gathers_each_one : (old e m : Ear) (due : Due) (n : ℕ) (texts some more : List SourceText) → GatheringEach old e n texts some → length more ≡ length some → m.settings ≡ e.settings
    → ((story : Story) → Tracks e.buffer story → Tracks m.buffer (gave story (given_of due m.buffer.current)))
    → ((sources : List ℕ) (us : List Numbered) (time : ℕ) → Stands e.receiver sources us → Stands m.receiver sources (us ++ used_packet time due.number m.buffer.current ∷ []))
    → latest_number m.receiver ≡ Some due.number
    → ((sources : List ℕ) (us : List Numbered) (time : ℕ) → Stands e.receiver sources us → AreHeard sources us some → AreHeard sources (us ++ used_packet time due.number m.buffer.current ∷ []) more)
    → (settings : EarSettings) (sources : List ℕ) (story : Story) → HearsEach old settings sources story texts
    → (given : List Given) × HearsEach m settings sources (record story { given = given }) more × (length given ≡ length story.given + (n + 1))
gathers_each_one old e m due n texts some more g size k t s latest heard settings sources story h =
    let now = g.hears settings sources story h in
    let before : Story = record story { given = now.0 } in
    let one : Given = given_of due m.buffer.current in
    let us : List Numbered = ready_packets now.0 in
    let stands = now.1.hears.stands in (
      now.0 ++ one ∷ [],
      record {
        hears = heard_one e m settings sources before due m.buffer.current k now.1.hears (t before now.1.hears.tracks) (s sources us due.ready stands) latest;
        each = size ∙ now.1.each;
        heard = subst (λ (vs : List Numbered). AreHeard sources vs more) (sym (map-append ready_packet now.0 (one ∷ []))) (heard sources us due.ready stands now.1.heard);
      },
      omega (arith, length-append now.0 (one ∷ []), now.2),
    )

-- nothing more is ready
pub gathered_each : (old e : Ear) (n : ℕ) (texts more : List SourceText) → GatheringEach old e n texts more → ((story : Story) → Tracks e.buffer story → story.given ≡ ready_dues story)
    → (settings : EarSettings) (sources : List ℕ) (story : Story) → HearsEach old settings sources story texts → GatheredEach e settings sources story n more
gathered_each old e n texts more g all settings sources story h =
    let now = g.hears settings sources story h in
    let whole : now.0 ≡ ready_dues story = all (record story { given = now.0 }) now.1.hears.tracks in
    let few = given_fits e.buffer (record story { given = now.0 }) now.1.hears.tracks in
    let same : length now.0 ≡ length (ready_dues story) = ap (λ (gs : List Given). length gs) whole in
    record {
      hears = subst (λ (gs : List Given). HearsEach e settings sources (record story { given = gs }) more) whole now.1;
      used = sym same ∙ now.2;
      few = omega (arith, same, few);
    }

-- another packet may stand in the place of the one given last
pub gathered_each_moved : (e m : Ear) (settings : EarSettings) (sources : List ℕ) (story : Story) (n : ℕ) (more : List SourceText) → m.settings ≡ e.settings → m.buffer ≡ e.buffer → m.receiver ≡ e.receiver
    → GatheredEach e settings sources story n more → GatheredEach m settings sources story n more
gathered_each_moved e m settings sources story n more k t r g =
    let h = g.hears.hears in
    record {
      hears = record {
        hears = record { asked = k ∙ h.asked; wait = h.wait; tracks = rw t h.tracks; stands = rw r h.stands; latest = rw r h.latest; texts = h.texts };
        each = g.hears.each;
        heard = g.hears.heard;
      };
      used = g.used;
      few = omega (arith, g.few, ap (λ (s : State). s.arrivals) t);
    }
