-- What the words ask of the program, what it says to them, and with which status it ends.
use Rattle.std.specs.Prelude.{◌≡◌, ℕ, if◌then◌else◌, List, [], ◌∷◌, ◌++◌, codes, Option, Some, None, ◌⊎◌, ⊤}
use Rattle.xi_plain.specs.declared.entry.Entry.{Entry}
use Rattle.outside.specs.Sink.{SinkState}
use Rattle.storm_lines.specs.declared.form.Form.{Form}
use Rattle.storm_lines.specs.declared.form.Form.TheVariants.{Threads, Alone, Storm}
use Rattle.storm_lines.specs.Forms.{form_in, is_named}
use Rattle.run_folder.specs.declared.playing.Ending.{Ending}
use Rattle.run_folder.specs.declared.playing.Ending.TheVariants as ending
use Rattle.run_folder.specs.Folder.{IsPlayedFrom}
use Rattle.xi_forms.specs.Forms.{EndsStorm, Passage, RunsAlone}
use Rattle.xi_core.specs.declared.words.Handed.{Handed}
use Rattle.xi_core.specs.declared.words.Handed.TheVariants.{Shipped, Nothing}
use Rattle.xi_core.specs.declared.words.Invocation.{Invocation}
use Rattle.xi_core.specs.declared.words.Invocation.TheVariants.{Help, Version, Methods, Run, Record, Replay, Misused}

-- a run of this form, if there is one, beside these plugins
abbrev pub run_of : Option Form → Handed → Invocation
run_of (Some form) handed = Run form handed
run_of None handed = Misused

-- how many plugins a run is handed
abbrev pub handed_count : Handed → ℕ
handed_count Shipped = 1
handed_count Nothing = 0

-- the words of the form: those behind the one that says that a run goes without plugins, where it is said
abbrev pub form_words : List (List ℕ) → List (List ℕ)
form_words [] = []
form_words (flag ∷ form) = if is_named flag (codes "--no-plugins") then form else flag ∷ form

abbrev pub handed_by : List (List ℕ) → Handed
handed_by [] = Shipped
handed_by (flag ∷ form) = if is_named flag (codes "--no-plugins") then Nothing else Shipped

-- what words ask that ask for a run: one with the plugin that ships for its form, or without plugins
abbrev pub run_in : List (List ℕ) → Invocation
run_in words = run_of (form_in (form_words words)) (handed_by words)

-- the same run, recorded; a storm has no tape, since its words say all of it
abbrev pub recorded : Invocation → Invocation
recorded (Run Threads handed) = Record Threads handed
recorded (Run Alone handed) = Record Alone handed
recorded other = Misused

-- what one word asks
abbrev pub invocation_of_one : List ℕ → Invocation
invocation_of_one word =
    if is_named word (codes "--help") then Help else (if is_named word (codes "--version") then Version else (
    if is_named word (codes "--methods") then Methods else run_in (word ∷ [])))

-- what was recorded is written again, where no word stands behind its folder
abbrev pub replay_of : List (List ℕ) → Invocation
replay_of [] = Replay
replay_of (word ∷ later) = Misused

-- WHAT THE WORDS ASK: the help, the version, the methods, a run, the same recorded in the folder of the second word, or that what was recorded there is
-- written again; else they are no form
abbrev pub invocation_in : List (List ℕ) → Invocation
invocation_in [] = run_in []
invocation_in (word ∷ []) = invocation_of_one word
invocation_in (word ∷ folder ∷ later) =
    if is_named word (codes "--record") then recorded (run_in later) else (
    if is_named word (codes "replay") then replay_of later else run_in (word ∷ folder ∷ later))

-- THE STATUS OF A RUN of this form beside so many plugins
abbrev pub EndsRun : Form → ℕ → ℕ → Type 0
EndsRun Threads plugins status = (passage : Passage) × (journal : List Entry) × RunsAlone plugins passage journal status
EndsRun Alone plugins status = (passage : Passage) × (journal : List Entry) × RunsAlone plugins passage journal status
EndsRun (Storm count seed) plugins status =
    (before : SinkState) × (after : SinkState) × (journal : List Entry) × EndsStorm count seed plugins before after journal status

-- the status by what playing a folder came to: 0 where all of it was written; 2 where a file of it is not there, can't be read or is no journal, or an
-- entry does not follow
abbrev pub replay_status : Ending → ℕ
replay_status ending.Whole = 0
replay_status (ending.Missing part) = 2
replay_status (ending.Unread part) = 2
replay_status (ending.NoEntry index) = 2
replay_status (ending.Differs index) = 2
replay_status ending.SinkFault = 5
replay_status ending.NoMemory = 3

-- THE STATUS OF A REPLAY of the folder of a shelf that tells no files
abbrev pub EndsReplay : ℕ → Type 0
EndsReplay status =
    (end : Ending) × (folder : List ℕ) × (before : SinkState) × (after : SinkState) × IsPlayedFrom end folder None before after ×
    (status ≡ replay_status end)

-- THE STATUS of the process: 0 where the help, the version or the methods are printed, and 5 where that fails; that of a run of the form with so many
-- plugins, recorded or not, or 3 where there was no memory for these; that of a replay; 2 where the words are no form
abbrev pub EndsWithStatus : Invocation → ℕ → Type 0
EndsWithStatus Help status = (status ≡ 0) ⊎ (status ≡ 5)
EndsWithStatus Version status = (status ≡ 0) ⊎ (status ≡ 5)
EndsWithStatus Methods status = (status ≡ 0) ⊎ (status ≡ 5)
EndsWithStatus (Run form handed) status = EndsRun form (handed_count handed) status ⊎ (status ≡ 3)
EndsWithStatus (Record form handed) status = EndsRun form (handed_count handed) status ⊎ (status ≡ 3)
EndsWithStatus Replay status = EndsReplay status
EndsWithStatus Misused status = status ≡ 2

-- it is not for a run, nor for the table of methods
abbrev pub IsForNoRun : Invocation → Type 0
IsForNoRun Help = ⊤
IsForNoRun Version = ⊤
IsForNoRun Misused = ⊤
IsForNoRun other = ⊥

-- the status for what these words ask
abbrev pub EndsFor : List (List ℕ) → ℕ → Type 0
EndsFor words status = EndsWithStatus (invocation_in words) status

-- there were words for which it ends so, or there was no memory for them
abbrev pub EndsForSome : ℕ → Type 0
EndsForSome status = ((words : List (List ℕ)) × EndsFor words status) ⊎ (status ≡ 3)

-- WHAT THE PROGRAM SAYS, but for a run, which says nothing of itself, and for the methods, which are a table
abbrev pub usage_text : List ℕ
usage_text = codes "usage: xi_core [alone | storm N SEED | replay FOLDER]"

abbrev pub help_text : List ℕ
help_text =
    usage_text ++ 10 ∷ 10 ∷ codes "Without words it serves one front end: reads its JSON lines from standard input, and answers on standard output." ++
    10 ∷ codes "The front end is served on the first thread, and each plugin on a thread of its own; the output is written by whichever entry comes." ++
    10 ∷ codes "With alone all are served on one thread: after each line each plugin has its turn, and then the next line is read." ++
    10 ∷ codes "Files are opened and saved under the paths that it names; a relative one counts from where the core was started." ++
    10 ∷ codes "A plugin marks each TODO in bold, in the first 1,048,576 bytes of a text." ++
    10 ∷ 10 ∷ codes "storm N SEED types N lines of its own, at most 1,000,000, drawn by SEED, below 2^64, and tells what they came to." ++
    10 ∷ codes "All is in memory: nothing is read, and no file is opened. A plugin types a * beside them after each eighth update." ++
    10 ∷ 10 ∷ codes "With --no-plugins before these words there is no plugin. With --record FOLDER before the words of a run, or before none," ++
    10 ∷ codes "what came in and what was made of it are saved in that folder when it ends, as the files tape and journal. Then" ++
    10 ∷ codes "replay FOLDER writes what the run wrote, and opens and saves nothing. A storm is not recorded." ++
    10 ∷ codes "Ends with status 0 at the input's end; 2 for other words, and where a replay goes another way; 3 where memory runs out; 4 and 5 where" ++
    10 ∷ codes "the input or the output failed; 6 after 2^40 lines; 7 for a line of 2^24 bytes without LF." ++
    10 ∷ 10 ∷ codes "Asked --version it tells which one it is, asked --methods what lines may ask, and asked --help this."

abbrev pub said_text : Invocation → List ℕ
said_text Help = help_text
said_text Version = codes "xi_core 0.1.0"
said_text Methods = []
said_text (Run form handed) = []
said_text (Record form handed) = []
said_text Replay = []
said_text Misused = usage_text
