-- What the reader of a text has in hand after its first characters.
use Rattle.std.specs.Prelude.{◌≡◌, ℕ, ◌≤◌, ◌<◌, List, ◌++◌, chars, encode_utf8_all, string_bytes}
use Rattle.view_spec.specs.Shown.{signs, survivors, bells, ends_with_cr}
use Rattle.t140_text.specs.declared.screens.Screen.{Screen}

pub record ScreenHolds (screen : Screen) (read : List ℕ) : Type 0 where
  pub text : string_bytes screen.text ≡ encode_utf8_all (survivors (signs read))
  pub rung : screen.bells ≡ bells read
  pub cr : screen.after_cr ≡ ends_with_cr read

-- a printable character of ASCII
pub record IsPlain (c : ℕ) : Type 0 where
  pub from : 0x20 ≤ c
  pub to : c < 0x7F

-- the screen holds what was read of the whole, and the rest is still to be read
pub record Reads (screen : Screen) (rest whole : List ℕ) : Type 0 where
  pub past : List ℕ
  pub holds : ScreenHolds screen past
  pub is : past ++ chars rest ≡ chars whole
