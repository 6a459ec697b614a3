-- What an ear gave is known from its beginning on.
use Rattle.std.proofs.Common.{◌≡◌, ◌∷◌, [], ◌++◌, ℕ, List, Bool, true, false, refl}
use Rattle.stream_spec.specs.Ready.{Chunk}
use Rattle.reorder_buffer.specs.Stories.{Story, begun}
use Rattle.receiver.specs.declared.settings.EarSettings.{EarSettings}
use Rattle.receiver.specs.declared.ears.Ear.{Ear}
use Rattle.receiver.specs.Hears.{Becomes, Gave, GivesChunk, GivesNone, IsGiving}

pub begins_giving : (ear : Ear) (settings : EarSettings) (sources : List ℕ) (source : ℕ) → ((s : ℕ) → sources ≡ s ∷ [] → Gave ear settings s (begun settings.wait) []) → sources ≡ source ∷ [] → IsGiving ear
begins_giving ear settings sources source gave is = (settings, source, begun settings.wait, [], gave source is)

still_giving : (old new : Ear) (c : Chunk) → GivesChunk old new c → IsGiving old → IsGiving new
still_giving old new c g i = let m = g i.0 i.1 i.2 i.3 i.4 in (i.0, i.1, record i.2 { given = m.0 }, i.3 ++ c ∷ [], m.1)

rests_giving : (old new : Ear) → GivesNone old new → IsGiving old → IsGiving new
rests_giving old new g i = let m = g i.0 i.1 i.2 i.3 i.4 in (i.0, i.1, record i.2 { given = m.0 }, i.3, m.1)

-- it gave a chunk, or none
pub gave_giving : (old new : Ear) (c : Chunk) (gave : Bool) → (gave ≡ true → GivesChunk old new c) → (gave ≡ false → GivesNone old new) → IsGiving old → IsGiving new
gave_giving old new c true some none i = still_giving old new c (some refl) i
gave_giving old new c false some none i = rests_giving old new (none refl) i

pub becomes_giving : (old new : Ear) (f : EarSettings → Story → Story) → Becomes old new f → IsGiving old → IsGiving new
becomes_giving old new f b i = (i.0, i.1, f i.0 i.2, i.3, b.gave i.0 i.1 i.2 i.3 i.4)
