mod StabilityLaws
