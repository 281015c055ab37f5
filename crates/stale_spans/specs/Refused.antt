-- What a fault of spans says.
use Rattle.std.specs.Prelude.{◌≡◌, Option, Some}
use Rattle.stale_spans.specs.declared.fault.Misplaced.{Misplaced}
use Rattle.stale_spans.specs.declared.fault.SpansFault.{SpansFault}
use Rattle.stale_spans.specs.declared.fault.SpansFault.TheVariants as Faults

-- the fault is this first that is no place, or want of memory
abbrev pub IsRefused : Option Misplaced → SpansFault → Type 0
IsRefused first Faults.NoMemory = Unit {0}
IsRefused first (Faults.Misplaced member) = first ≡ Some member
