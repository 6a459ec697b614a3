-- Lines of records by the definitions alone, by computing.
use Rattle.std.proofs.Common.{◌≡◌, [], ◌∷◌, refl, codes}
use Rattle.std.specs.Str.{chars, is_utf8}
use Rattle.std.specs.Char.{encode_utf8}
use Rattle.std.specs.Fmt.{digits}
use Rattle.rtt_base.specs.declared.text_packets.PayloadTypes.{PayloadTypes}
use Rattle.wire_spec.specs.Rtp.{rtp, rtp_of_header}
use Rattle.wire_spec.specs.Red.{headers_at, red, red_within, texts_at, texts_within}
use Rattle.wire_spec.specs.Text.{short_within, text_of, text_of_short, text_within}
use Rattle.wire_spec.specs.Dump.{Item, Whole, Rtcp, Cut, Large}
use Rattle.command_spec.specs.Listing.{packet_line, list_view}

abbrev usual : PayloadTypes
usual = record { t140 = 98; red = 100 }

-- a packet of text/red with the letter A behind two blocks that have no text
abbrev typed : Item
typed = record { time = 300; what = Whole (128 ∷ 228 ∷ 0 ∷ 7 ∷ 0 ∷ 0 ∷ 1 ∷ 44 ∷ 0 ∷ 0 ∷ 3 ∷ 233 ∷ 226 ∷ 255 ∷ 252 ∷ 0 ∷ 226 ∷ 255 ∷ 252 ∷ 0 ∷ 98 ∷ 65 ∷ []) }

-- one octet alone
abbrev short : Item
short = record { time = 0; what = Whole (128 ∷ []) }

packets_are_listed : list_view usual (short ∷ typed ∷ []) ≡ codes "0 refused Short\n300 7 mark 1 stamp 300 ssrc 1001 source 1001 texts 0 0 1\n-- records 2\n"
unfolding list_view packet_line is_utf8 rtp rtp_of_header red_within headers_at texts_within text_within short_within chars encode_utf8 digits
packets_are_listed = refl

others_are_listed : list_view usual (record { time = 1; what = Rtcp } ∷ record { time = 2; what = Cut } ∷ record { time = 3; what = Large } ∷ []) ≡ codes "1 rtcp\n2 cut\n3 large\n-- records 3\n"
unfolding list_view digits
others_are_listed = refl
