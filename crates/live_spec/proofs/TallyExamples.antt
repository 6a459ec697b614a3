-- What is counted of the legs of `FollowExamples`, and of one that is not followed, worked out by hand.
use Rattle.std.proofs.Common.{◌≡◌, ℕ, false, [], ◌∷◌, refl}
use Rattle.std.specs.Str.{is_utf8, chars}
use Rattle.std.specs.Char.{encode_utf8}
use Rattle.wire_spec.specs.Rtp.{rtp, rtp_of_header}
use Rattle.wire_spec.specs.Red.{headers_at, red, red_within, texts_at, texts_within}
use Rattle.wire_spec.specs.Text.{short_within, text_of, text_of_short, text_within}
use Rattle.stream_spec.specs.Links.{Taken, Takes}
use Rattle.stream_spec.specs.Links as link
use Rattle.live_spec.specs.Told.{Hearing}
use Rattle.view_spec.specs.declared.tallies.Tally.{Tally}
use Rattle.live_spec.specs.Tally.{tally_by}
use Rattle.live_spec.proofs.FollowExamples.{again, ann, closed, letter}

abbrev tally : ℕ → ℕ → ℕ → ℕ → ℕ → Tally
tally came text refused foreign senders = record { came = came; text = text; refused = refused; foreign = foreign; senders = senders }

-- what comes at the moment t and is no packet, what is too large, and nothing
abbrev noise : ℕ → Taken
noise t = record { at = t; came = link.Datagram (0x00 ∷ 0x01 ∷ []) }

abbrev large : ℕ → Taken
large t = record { at = t; came = link.Large }

abbrev quiet : ℕ → Taken
quiet t = record { at = t; came = link.Quiet }

-- four letters of two senders
two_senders : tally_by ann again ≡ tally 4 4 0 0 2
unfolding is_utf8 chars encode_utf8 text_within short_within rtp rtp_of_header red_within headers_at texts_within
two_senders = refl

-- SSRC 5 is passed over, and where SSRC 6 sent nothing for a second it is a sender once more
passed_over : tally_by ann (letter 5200 5 2 0x45 ∷ again) ≡ tally 5 4 0 1 2
unfolding is_utf8 chars encode_utf8 text_within short_within rtp rtp_of_header red_within headers_at texts_within
passed_over = refl

came_back : tally_by ann (letter 6100 5 2 0x45 ∷ again) ≡ tally 5 5 0 0 3
unfolding is_utf8 chars encode_utf8 text_within short_within rtp rtp_of_header red_within headers_at texts_within
came_back = refl

-- what is no packet or too large is refused; that nothing came, or the link is closed, counts nothing
refused : tally_by ann (closed 9000 ∷ quiet 8000 ∷ large 7000 ∷ noise 6000 ∷ again) ≡ tally 6 4 2 0 2
unfolding is_utf8 chars encode_utf8 text_within short_within rtp rtp_of_header red_within headers_at texts_within
refused = refl

-- where she has SSRC 5, and is not followed, SSRC 6 is passed over
abbrev plain : Hearing
plain = record { leg = 0; ssrc = 5; payload_types = record { t140 = 98; red = 100 }; most = 1023; wait = 1000; follow = false; piece = 1023 }

unfollowed : tally_by plain again ≡ tally 4 2 0 2 1
unfolding is_utf8 chars encode_utf8 text_within short_within rtp rtp_of_header red_within headers_at texts_within
unfollowed = refl

no_text : tally_by plain (letter 0 6 0 0x41 ∷ []) ≡ tally 1 0 0 1 0
unfolding is_utf8 chars encode_utf8 text_within short_within rtp rtp_of_header red_within headers_at texts_within
no_text = refl
