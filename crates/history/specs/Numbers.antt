-- What the numbers of document 01's table say, each by its name. Assumes nothing.
use Rattle.std.specs.Prelude.{ℕ}

abbrev pub done : ℕ
done = 0

-- open: a limit is broken
abbrev pub limit_broken : ℕ
limit_broken = 1

-- all but open and restore: the voice is idle
abbrev pub voice_idle : ℕ
voice_idle = 2

-- give: samples of the last frame are left
abbrev pub samples_left : ℕ
samples_left = 3

-- give: the spectrum's length is not nmcp
abbrev pub spectrum_length : ℕ
spectrum_length = 4

-- give: the tap count is not nlpf
abbrev pub tap_count : ℕ
tap_count = 5

-- give: lf0, a spectrum entry or a tap is not finite
abbrev pub not_finite : ℕ
not_finite = 6

-- give: at stage 1 or more, a spectrum entry is beyond 2^20 in size
abbrev pub entry_beyond : ℕ
entry_beyond = 7

-- give: the meter and fperiod exceed 2^63 - 1
abbrev pub meter_full : ℕ
meter_full = 8

-- give: preparing meets an argument outside ln, cos or power
abbrev pub argument_outside : ℕ
argument_outside = 9

-- draw: nothing is left to draw
abbrev pub nothing_left : ℕ
nothing_left = 10

-- draw: the noise is dry
abbrev pub noise_dry : ℕ
noise_dry = 11

-- save: the buffer is shorter than the records
abbrev pub records_longer : ℕ
records_longer = 12

-- restore: the records are not acceptable
abbrev pub records_wrong : ℕ
records_wrong = 13

-- whole frame: the sample buffer is shorter than fperiod
abbrev pub buffer_short : ℕ
buffer_short = 14
