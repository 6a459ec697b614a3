-- What always holds of the parts of a leg.
use Rattle.std.specs.Prelude.{◌≡◌, ◌+◌, ◌≤◌, false}
use Rattle.rtpdump_io.specs.declared.readers.DumpReader.{DumpReader}
use Rattle.rtpdump_io.specs.Reading.{is_ended, most_answers}
use Rattle.receiver.specs.declared.ears.Ear.{Ear}
use Rattle.receiver.specs.Hears.{arrival_count, is_finished}

module _ {S : Type 0} where
  -- at most as many packets came as records were read
  abbrev pub FewCame : DumpReader S → Ear → Type 0
  FewCame reader ear = arrival_count ear + most_answers reader ≤ 4194306

  -- the ear is told of the end once it is read
  abbrev pub EndsWith : DumpReader S → Ear → Type 0
  EndsWith reader ear = is_ended reader ≡ false → is_finished ear ≡ false
