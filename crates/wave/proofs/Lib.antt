mod WaveLaws
