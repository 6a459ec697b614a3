-- Legs whose terminals begin anew, worked out by hand. Each datagram is one packet with one letter and no redundancy.
use Rattle.std.proofs.Common.{◌≡◌, ℕ, true, false, [], ◌∷◌, ◌++◌, refl}
use Rattle.std.specs.Str.{is_utf8, chars}
use Rattle.std.specs.Char.{encode_utf8}
use Rattle.std.specs.Prelude.{codes}
use Rattle.wire_spec.specs.Rtp.{rtp, rtp_of_header}
use Rattle.wire_spec.specs.Red.{headers_at, red, red_within, texts_at, texts_within}
use Rattle.wire_spec.specs.Text.{short_within, text_of, text_of_short, text_within}
use Rattle.stream_spec.specs.Hearing.{marker}
use Rattle.stream_spec.specs.Ready.{chunk}
use Rattle.stream_spec.specs.Links.{Came, Taken, Takes}
use Rattle.stream_spec.specs.Links as link
use Rattle.live_spec.specs.Told.{Hearing, all_by, heard_told, ready_by, told_by}

-- Ann is named with the SSRC 1001, and followed
abbrev pub ann : Hearing
ann = record { leg = 0; ssrc = 1001; payload_types = record { t140 = 98; red = 100 }; most = 1023; wait = 1000; follow = true; piece = 1023 }

-- at the moment t, of this SSRC, with this number, this letter
abbrev pub letter : ℕ → ℕ → ℕ → ℕ → Taken
letter t ssrc number octet = record {
  at = t;
  came = link.Datagram (0x80 ∷ 0x62 ∷ 0x00 ∷ number ∷ 0x00 ∷ 0x00 ∷ 0x00 ∷ number ∷ 0x00 ∷ 0x00 ∷ 0x00 ∷ ssrc ∷ octet ∷ []);
}

abbrev pub closed : ℕ → Taken
closed t = record { at = t; came = link.Closed }

-- ---- *started-again*: SSRC 5 types AB and is gone, SSRC 6 types CD from number 0 on
abbrev first : Takes
first = letter 100 5 1 0x42 ∷ letter 0 5 0 0x41 ∷ []

abbrev pub again : Takes
again = letter 5100 6 1 0x44 ∷ letter 5000 6 0 0x43 ∷ first

started_again : all_by ann again ≡ chunk 0 0 (codes "A") ∷ chunk 0 100 (codes "B") ∷ chunk 0 5000 marker ∷ chunk 0 5000 (codes "C") ∷ chunk 0 5100 (codes "D") ∷ []
unfolding is_utf8 chars encode_utf8 text_within short_within rtp rtp_of_header red_within headers_at texts_within
started_again = refl

all_ready : ready_by ann again ≡ all_by ann again
unfolding is_utf8 chars encode_utf8 text_within short_within rtp rtp_of_header red_within headers_at texts_within
all_ready = refl

-- ---- *gap-left*: B was waited for when SSRC 6 took over; what came behind it is given with the marker, and nothing later
abbrev gap : Takes
gap = letter 500 6 0 0x44 ∷ letter 100 5 2 0x43 ∷ letter 0 5 0 0x41 ∷ []

gap_waits : ready_by ann (letter 100 5 2 0x43 ∷ letter 0 5 0 0x41 ∷ []) ≡ chunk 0 0 (codes "A") ∷ []
unfolding is_utf8 chars encode_utf8 text_within short_within rtp rtp_of_header red_within headers_at texts_within
gap_waits = refl

gap_left : ready_by ann gap ≡ chunk 0 0 (codes "A") ∷ chunk 0 500 marker ∷ chunk 0 500 (codes "C") ∷ chunk 0 500 marker ∷ chunk 0 500 (codes "D") ∷ []
unfolding is_utf8 chars encode_utf8 text_within short_within rtp rtp_of_header red_within headers_at texts_within
gap_left = refl

-- ---- *went-back*: SSRC 5 again is passed over, and its moment with it
went_back : told_by ann (letter 5200 5 2 0x45 ∷ again) ≡ told_by ann again
unfolding is_utf8 chars encode_utf8 text_within short_within rtp rtp_of_header red_within headers_at texts_within
went_back = refl

-- ---- *came-back*: where SSRC 6 sent nothing for a second, SSRC 5 is heard again
came_back : all_by ann (letter 6100 5 2 0x45 ∷ again) ≡ all_by ann again ++ chunk 0 6100 marker ∷ chunk 0 6100 (codes "E") ∷ []
unfolding is_utf8 chars encode_utf8 text_within short_within rtp rtp_of_header red_within headers_at texts_within
came_back = refl

-- ---- *never-named*: the only SSRC is 77
never_named : all_by ann (closed 200 ∷ letter 100 77 0 0x41 ∷ []) ≡ chunk 0 100 (codes "A") ∷ []
unfolding is_utf8 chars encode_utf8 text_within short_within rtp rtp_of_header red_within headers_at texts_within
never_named = refl

-- where she is not followed, none of this is heard
unfollowed : all_by (record ann { follow = false }) (closed 200 ∷ letter 100 77 0 0x41 ∷ again) ≡ []
unfolding is_utf8 chars encode_utf8 text_within short_within rtp rtp_of_header red_within headers_at texts_within
unfollowed = refl

-- the texts alone
texts_again : heard_told ann (told_by ann again) ≡ codes "A" ∷ codes "B" ∷ marker ∷ codes "C" ∷ codes "D" ∷ []
unfolding is_utf8 chars encode_utf8 text_within short_within rtp rtp_of_header red_within headers_at texts_within
texts_again = refl
