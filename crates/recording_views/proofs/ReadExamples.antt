-- The whole way of a recording by the definitions alone, by computing.
use Rattle.std.proofs.Common.{◌≡◌, ℕ, List, [], ◌∷◌, refl, codes}
use Rattle.std.specs.Str.{chars, is_utf8}
use Rattle.std.specs.Char.{encode_utf8}
use Rattle.std.specs.Fmt.{digits}
use Rattle.command_spec.specs.declared.requests.ReadRequest.{ReadRequest}
use Rattle.wire_spec.specs.Rtp.{rtp, rtp_of_header}
use Rattle.wire_spec.specs.Red.{headers_at, red, red_within, texts_at, texts_within}
use Rattle.wire_spec.specs.Text.{short_within, text_of, text_of_short, text_within}
use Rattle.wire_spec.specs.Dump.{dump, opening, dump_step, records, records_within}
use Rattle.view_spec.specs.Characters.{class_of}
use Rattle.view_spec.specs.Shown.{shown}
use Rattle.view_spec.specs.Views.{text_view, counts_line}
use Rattle.command_spec.specs.Reading.{read_view}

-- a sender types A and, 300 ms later, B: four packets
call : List ℕ
call = 35 ∷ 33 ∷ 114 ∷ 116 ∷ 112 ∷ 112 ∷ 108 ∷ 97 ∷ 121 ∷ 49 ∷ 46 ∷ 48 ∷ 32 ∷ 49 ∷ 50 ∷ 55 ∷ 46 ∷ 48 ∷ 46 ∷ 48 ∷ 46 ∷ 49 ∷ 47 ∷ 53 ∷ 48 ∷ 48 ∷ 52 ∷ 10 ∷ 0 ∷ 0 ∷ 0 ∷ 0 ∷ 0 ∷ 0 ∷ 0 ∷ 0 ∷ 127 ∷ 0 ∷ 0 ∷ 1 ∷ 19 ∷ 140 ∷ 0 ∷ 0 ∷ 0 ∷ 30 ∷ 0 ∷ 22 ∷ 0 ∷ 0 ∷ 0 ∷ 0 ∷ 128 ∷ 228 ∷ 0 ∷ 0 ∷ 0 ∷ 0 ∷ 0 ∷ 0 ∷ 0 ∷ 0 ∷ 3 ∷ 233 ∷ 226 ∷ 255 ∷ 252 ∷ 0 ∷ 226 ∷ 255 ∷ 252 ∷ 0 ∷ 98 ∷ 65 ∷ 0 ∷ 31 ∷ 0 ∷ 23 ∷ 0 ∷ 0 ∷ 1 ∷ 44 ∷ 128 ∷ 100 ∷ 0 ∷ 1 ∷ 0 ∷ 0 ∷ 1 ∷ 44 ∷ 0 ∷ 0 ∷ 3 ∷ 233 ∷ 226 ∷ 255 ∷ 252 ∷ 0 ∷ 226 ∷ 4 ∷ 176 ∷ 1 ∷ 98 ∷ 65 ∷ 66 ∷ 0 ∷ 31 ∷ 0 ∷ 23 ∷ 0 ∷ 0 ∷ 2 ∷ 88 ∷ 128 ∷ 100 ∷ 0 ∷ 2 ∷ 0 ∷ 0 ∷ 2 ∷ 88 ∷ 0 ∷ 0 ∷ 3 ∷ 233 ∷ 226 ∷ 9 ∷ 96 ∷ 1 ∷ 226 ∷ 4 ∷ 176 ∷ 1 ∷ 98 ∷ 65 ∷ 66 ∷ 0 ∷ 30 ∷ 0 ∷ 22 ∷ 0 ∷ 0 ∷ 3 ∷ 132 ∷ 128 ∷ 100 ∷ 0 ∷ 3 ∷ 0 ∷ 0 ∷ 3 ∷ 132 ∷ 0 ∷ 0 ∷ 3 ∷ 233 ∷ 226 ∷ 9 ∷ 96 ∷ 1 ∷ 226 ∷ 4 ∷ 176 ∷ 0 ∷ 98 ∷ 66 ∷ []

abbrev asked : ReadRequest
asked = record { ssrc = 1001; source = 1001; payload_types = record { t140 = 98; red = 100 } }

view_of_call : read_view asked call ≡ codes "| AB\n-- bells 0\n-- packets 4 used 4 refused 0 foreign 0\n"
unfolding call read_view is_utf8 rtp rtp_of_header red_within headers_at texts_within text_within short_within dump opening dump_step records records_within shown class_of chars encode_utf8 digits text_view counts_line
view_of_call = refl
