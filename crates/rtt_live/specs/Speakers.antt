-- Whom the terminal of a leg hears (profile).
use Rattle.file_spec.specs.declared.conference_lines.LegLine.{LegLine}
use Rattle.file_spec.specs.Conference.{Conference}
use Rattle.terminal.specs.declared.settings.TerminalSettings.{TerminalSettings}

-- what the terminal of a leg is made with
abbrev pub terminal_settings : Conference → LegLine → TerminalSettings
terminal_settings c leg = record { ssrc = c.mixer.ssrc; payload_types = leg.payload_types; wait = c.wait }
