-- A frame as the code takes it. Assumes nothing.
use Rattle.refusing.specs.declared.Frame as declared
use Rattle.refusing.specs.Refusal.{Frame, frame}

abbrev pub frame_of : declared.Frame → Frame
frame_of f = frame f.lf0 f.spectrum.now f.lpf.now
