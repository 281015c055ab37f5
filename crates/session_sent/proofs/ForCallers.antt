-- For callers: a session may be sent to a thread, and shared between threads, where its sink and its shelf may.
use denote.RattleType.{RattleType}
use denote.Param.Send.{IsSend, IsSync, sendable, struct_send, struct_sync, recorded_send, recorded_sync}
use denote.Struct.Declared.{shape}
use Rattle.std.proofs.Crossing.{crosses}
use Rattle.xi_plain.proofs.entry.Entry.TheSendSync as Entry
use Rattle.span_styles.proofs.table.StyleTable.TheSendSync as StyleTable
use Rattle.core_session.specs.contracts.session.Core as Core
use Rattle.session_sent.proofs.SendLemmas.{EntryNews-send, EntryNews-sync, Opened-send, Opened-sync, Text-send, Text-sync}

module _ (K H : RattleType) where
  -- the parts in their order: journal, told, stop, views, styles, ended, opened, config, stage, terms, shelf, sink, alloc
  pub Core-send : IsSend K → IsSend H → IsSend (Core.the_row K H)
  Core-send sink shelf =
      recorded_send (Core.the_field K H).row _ _ (Core.the_type K H).to_one (struct_send (shape (Core.the_type K H)) (
        search (sendable, crosses, Entry.the_send) depth 60 fits 20000,
        (
          search (sendable, crosses, EntryNews-send) depth 60 fits 20000,
          (
            search (sendable, crosses, Text-send) depth 60 fits 20000,
            (
              search (sendable, crosses, Opened-send) depth 60 fits 20000,
              (
                StyleTable.the_send,
                (
                  search (sendable, crosses) depth 60 fits 20000,
                  (
                    search sendable,
                    (
                      search sendable,
                      (search sendable, (search sendable, (shelf, (sink, (search (sendable, crosses) depth 60 fits 20000, tt))))),
                    ),
                  ),
                ),
              ),
            ),
          ),
        ),
      ))

  pub Core-sync : IsSync K → IsSync H → IsSync (Core.the_row K H)
  Core-sync sink shelf =
      recorded_sync (Core.the_field K H).row _ _ (Core.the_type K H).to_one (struct_sync (shape (Core.the_type K H)) (
        search (sendable, crosses, Entry.the_sync) depth 60 fits 20000,
        (
          search (sendable, crosses, EntryNews-sync) depth 60 fits 20000,
          (
            search (sendable, crosses, Text-sync) depth 60 fits 20000,
            (
              search (sendable, crosses, Opened-sync) depth 60 fits 20000,
              (
                StyleTable.the_sync,
                (
                  search (sendable, crosses) depth 60 fits 20000,
                  (
                    search sendable,
                    (
                      search sendable,
                      (search sendable, (search sendable, (shelf, (sink, (search (sendable, crosses) depth 60 fits 20000, tt))))),
                    ),
                  ),
                ),
              ),
            ),
          ),
        ),
      ))
