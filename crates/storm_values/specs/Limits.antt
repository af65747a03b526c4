-- The limits of what is read and run, each by a name of its own. `src/limits.rt` has the same
-- numbers, and the law `limits_have_these_values` ties the two. This project's own.
use Rattle.std.specs.Prelude.{ℕ}

-- ---- an input

-- bytes of a line, without its byte 10
abbrev pub most_line_bytes : ℕ
most_line_bytes = 4096

abbrev pub most_input_bytes : ℕ
most_input_bytes = 67108864

abbrev pub most_lines : ℕ
most_lines = 1000000

-- ---- a row

-- values of a row, and names in one list
abbrev pub most_fields : ℕ
most_fields = 8

-- bytes of a text
abbrev pub most_text_bytes : ℕ
most_text_bytes = 4096

-- rows that an operation of the user's own makes of a row
abbrev pub most_custom_rows : ℕ
most_custom_rows = 16

-- ---- a topology file

abbrev pub most_topology_bytes : ℕ
most_topology_bytes = 65536

abbrev pub most_name_bytes : ℕ
most_name_bytes = 32

-- bytes of a constant's text
abbrev pub most_constant_bytes : ℕ
most_constant_bytes = 256

abbrev pub most_bolts : ℕ
most_bolts = 32

abbrev pub most_states : ℕ
most_states = 8

-- inputs of a bolt
abbrev pub most_bolt_inputs : ℕ
most_bolt_inputs = 32

-- inputs of a state: each bolt and the spout
abbrev pub most_state_inputs : ℕ
most_state_inputs = 33

-- tasks of one component, a state's being its parts
abbrev pub most_tasks : ℕ
most_tasks = 64

-- tasks of all components together
abbrev pub most_tasks_in_all : ℕ
most_tasks_in_all = 1024

-- tuples that one tuple of the spout can make where each bolt emits one row for a row
abbrev pub most_weight : ℕ
most_weight = 4096

-- records of a batch
abbrev pub most_batch : ℕ
most_batch = 100000

abbrev pub most_ackers : ℕ
most_ackers = 16

-- batches in flight
abbrev pub most_pending : ℕ
most_pending = 64

abbrev pub least_buckets : ℕ
least_buckets = 2

abbrev pub most_buckets : ℕ
most_buckets = 16

-- attempts of a batch
abbrev pub most_attempts : ℕ
most_attempts = 100

-- the number of `flaky` and of `mute`
abbrev pub most_below : ℕ
most_below = 100

-- ---- a run

abbrev pub most_workers : ℕ
most_workers = 64
