-- Why a session is left, where an event wasn't answered. This project's own rule.
use Rattle.debug_connection.specs.declared.stops.HearStop.{HearStop}
use Rattle.debug_connection.specs.declared.stops.HearStop.TheVariants as hear
use Rattle.debug_connection.specs.declared.stops.ServeStop.{ServeStop}
use Rattle.debug_connection.specs.declared.stops.ServeStop.TheVariants as serve

abbrev pub serve_stop : HearStop → ServeStop
serve_stop hear.SinkFault = serve.SinkFault
serve_stop hear.Memory = serve.Memory
