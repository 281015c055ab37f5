-- Which parts of a session may be sent to a thread, and shared between threads: each by its own parts.
use denote.Param.Send.{IsSend, IsSync, sendable}
use Rattle.std.proofs.Crossing.{crosses}
use Rattle.shared_tree.proofs.node.Node.TheLaws.TheKnot as Knot
use Rattle.plain_text.specs.contracts.text.Text as Text
use Rattle.subset_runs.specs.contracts.subset.Subset as Subset
use Rattle.number_set.specs.contracts.set.NumberSet as NumberSet
use Rattle.rev_list.specs.contracts.settled.UpToFloor as UpToFloor
use Rattle.rev_list.specs.contracts.records.RevRecord as RevRecord
use Rattle.rev_list.specs.contracts.records.Records as Records
use Rattle.rev_list.specs.contracts.firsts.FirstEdits as FirstEdits
use Rattle.rev_list.specs.contracts.list.RevList as RevList
use Rattle.rope_tree.specs.contracts.rope.Rope as Rope
use Rattle.rev_engine.specs.contracts.engine.Engine as Engine
use Rattle.undo_groups.specs.contracts.stack.Stack as Stack
use Rattle.edit_groups.specs.contracts.sessions.Sessions as Sessions
use Rattle.doc_text.specs.contracts.text.TextState as TextState
use Rattle.line_index.specs.contracts.index.LineIndex as LineIndex
use Rattle.span_styles.specs.contracts.layers.Layers as Layers
use Rattle.match_index.specs.contracts.matches.Matches as Matches
use Rattle.doc_view.specs.contracts.search.Search as Search
use Rattle.doc_view.specs.contracts.view.ViewState as ViewState
use Rattle.doc_session.specs.contracts.doc.Doc as Doc
use Rattle.session_step.specs.contracts.opened.Opened as Opened
use Rattle.core_session.specs.contracts.telling.EntryNews as EntryNews

pub Text-send : IsSend Text.the_row
Text-send = search (sendable, crosses, Knot.crosses) depth 60 fits 20000

pub Text-sync : IsSync Text.the_row
Text-sync = search (sendable, crosses, Knot.crosses) depth 60 fits 20000

Subset-send : IsSend Subset.the_row
Subset-send = search (sendable, crosses, Knot.crosses) depth 60 fits 20000

Subset-sync : IsSync Subset.the_row
Subset-sync = search (sendable, crosses, Knot.crosses) depth 60 fits 20000

NumberSet-send : IsSend NumberSet.the_row
NumberSet-send = search (sendable, crosses, Knot.crosses) depth 60 fits 20000

NumberSet-sync : IsSync NumberSet.the_row
NumberSet-sync = search (sendable, crosses, Knot.crosses) depth 60 fits 20000

UpToFloor-send : IsSend UpToFloor.the_row
UpToFloor-send = search (sendable, crosses, Knot.crosses, NumberSet-send) depth 60 fits 20000

UpToFloor-sync : IsSync UpToFloor.the_row
UpToFloor-sync = search (sendable, crosses, Knot.crosses, NumberSet-sync) depth 60 fits 20000

RevRecord-send : IsSend RevRecord.the_row
RevRecord-send = search (sendable, crosses, Knot.crosses, Subset-send) depth 60 fits 20000

RevRecord-sync : IsSync RevRecord.the_row
RevRecord-sync = search (sendable, crosses, Knot.crosses, Subset-sync) depth 60 fits 20000

Records-send : IsSend Records.the_row
Records-send = search (sendable, crosses, Knot.crosses, RevRecord-send) depth 60 fits 20000

Records-sync : IsSync Records.the_row
Records-sync = search (sendable, crosses, Knot.crosses, RevRecord-sync) depth 60 fits 20000

FirstEdits-send : IsSend FirstEdits.the_row
FirstEdits-send = search (sendable, crosses, Knot.crosses, NumberSet-send) depth 60 fits 20000

FirstEdits-sync : IsSync FirstEdits.the_row
FirstEdits-sync = search (sendable, crosses, Knot.crosses, NumberSet-sync) depth 60 fits 20000

RevList-send : IsSend RevList.the_row
RevList-send = search (sendable, crosses, Knot.crosses, UpToFloor-send, UpToFloor-sync, Subset-send, Subset-sync, Records-send, FirstEdits-send, NumberSet-send) depth 60 fits 20000

RevList-sync : IsSync RevList.the_row
RevList-sync = search (sendable, crosses, Knot.crosses, UpToFloor-send, UpToFloor-sync, Subset-send, Subset-sync, Records-sync, FirstEdits-sync, NumberSet-sync) depth 60 fits 20000

Rope-send : IsSend Rope.the_row
Rope-send = search (sendable, crosses, Knot.crosses) depth 60 fits 20000

Rope-sync : IsSync Rope.the_row
Rope-sync = search (sendable, crosses, Knot.crosses) depth 60 fits 20000

Engine-send : IsSend Engine.the_row
Engine-send = search (sendable, crosses, Knot.crosses, Rope-send, RevList-send) depth 60 fits 20000

Engine-sync : IsSync Engine.the_row
Engine-sync = search (sendable, crosses, Knot.crosses, Rope-sync, RevList-sync) depth 60 fits 20000

Stack-send : IsSend Stack.the_row
Stack-send = search (sendable, crosses, Knot.crosses, NumberSet-send) depth 60 fits 20000

Stack-sync : IsSync Stack.the_row
Stack-sync = search (sendable, crosses, Knot.crosses, NumberSet-sync) depth 60 fits 20000

Sessions-send : IsSend Sessions.the_row
Sessions-send = search (sendable, crosses, Knot.crosses) depth 60 fits 20000

Sessions-sync : IsSync Sessions.the_row
Sessions-sync = search (sendable, crosses, Knot.crosses) depth 60 fits 20000

TextState-send : IsSend TextState.the_row
TextState-send = search (sendable, crosses, Knot.crosses, Engine-send, Engine-sync, Stack-send, Sessions-send) depth 60 fits 20000

TextState-sync : IsSync TextState.the_row
TextState-sync = search (sendable, crosses, Knot.crosses, Engine-send, Engine-sync, Stack-sync, Sessions-sync) depth 60 fits 20000

LineIndex-send : IsSend LineIndex.the_row
LineIndex-send = search (sendable, crosses, Knot.crosses) depth 60 fits 20000

LineIndex-sync : IsSync LineIndex.the_row
LineIndex-sync = search (sendable, crosses, Knot.crosses) depth 60 fits 20000

Layers-send : IsSend Layers.the_row
Layers-send = search (sendable, crosses, Knot.crosses) depth 60 fits 20000

Layers-sync : IsSync Layers.the_row
Layers-sync = search (sendable, crosses, Knot.crosses) depth 60 fits 20000

Matches-send : IsSend Matches.the_row
Matches-send = search (sendable, crosses, Knot.crosses, Rope-send, Text-send) depth 60 fits 20000

Matches-sync : IsSync Matches.the_row
Matches-sync = search (sendable, crosses, Knot.crosses, Rope-sync, Text-sync) depth 60 fits 20000

Search-send : IsSend Search.the_row
Search-send = search (sendable, crosses, Knot.crosses, Text-send) depth 60 fits 20000

Search-sync : IsSync Search.the_row
Search-sync = search (sendable, crosses, Knot.crosses, Text-sync) depth 60 fits 20000

ViewState-send : IsSend ViewState.the_row
ViewState-send = search (sendable, crosses, Knot.crosses, LineIndex-send, LineIndex-sync, Layers-send, Layers-sync, Search-send, Search-sync, Matches-send, Matches-sync) depth 60 fits 20000

ViewState-sync : IsSync ViewState.the_row
ViewState-sync = search (sendable, crosses, Knot.crosses, LineIndex-send, LineIndex-sync, Layers-send, Layers-sync, Search-send, Search-sync, Matches-send, Matches-sync) depth 60 fits 20000

pub Doc-send : IsSend Doc.the_row
Doc-send = search (sendable, crosses, Knot.crosses, TextState-send, ViewState-send) depth 60 fits 20000

pub Doc-sync : IsSync Doc.the_row
Doc-sync = search (sendable, crosses, Knot.crosses, TextState-sync, ViewState-sync) depth 60 fits 20000

pub Opened-send : IsSend Opened.the_row
Opened-send = search (sendable, crosses, Knot.crosses, Text-send, Doc-send, Doc-sync) depth 60 fits 20000

pub Opened-sync : IsSync Opened.the_row
Opened-sync = search (sendable, crosses, Knot.crosses, Text-sync, Doc-send, Doc-sync) depth 60 fits 20000

pub EntryNews-send : IsSend EntryNews.the_row
EntryNews-send = search (sendable, crosses, Knot.crosses, Text-send) depth 60 fits 20000

pub EntryNews-sync : IsSync EntryNews.the_row
EntryNews-sync = search (sendable, crosses, Knot.crosses, Text-sync) depth 60 fits 20000
