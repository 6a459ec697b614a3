use Rattle.packetizer.proofs.Scripts.{own}
use Rattle.command_spec.specs.Scripts.{events_through}
use Rattle.text_conversions.proofs.Typed.{lawful_sent, closed_sent, texts_sent}
use Rattle.text_conversions.proofs.send_laws.sent_history.Goals as goal

pub returns : goal.returns
returns c = record { lawful = lawful_sent; own = λ settings lines t. own settings (events_through lines t); closed = closed_sent; texts = texts_sent }
